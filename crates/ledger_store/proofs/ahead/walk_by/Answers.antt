use Rattle.std.proofs.Common.{◌≡◌, List, map, sym, ◌∙◌, ap}
use Rattle.std.specs.Vec.Iter.{into_iter_items}
use Rattle.ledger_store.specs.declared.ahead.Ahead.{Ahead}
use Rattle.ledger_store.specs.Ahead.{seen, stepped_by, walked_by}
use Rattle.ledger_store.specs.Watching.{settled}
use Rattle.ledger_store.proofs.Beside.{more_settled}
use Rattle.ledger_store.proofs.ahead.walk_by.Goals as goal

pub loop-file-init : goal.loop-file-init
loop-file-init g c =
    let all : into_iter_items c.into_iter-file-iterator.result ≡ c.args.ahead = c.into_iter-file-iterator.ensures.into_iter_gives.0 ∙ c.into_vec-file-items.ensures in
    record {
      readable = c.requires.readable;
      widths = c.requires.widths;
      told = ap (λ (l : List Ahead). settled c.args.files.now (walked_by (map seen l) c.args.before)) (sym all);
    }

pub loop-file-preserved : goal.loop-file-preserved
loop-file-preserved g c =
    let left = into_iter_items c.next.new.self in
    let newest = c.loop-file.newest in
    let file = c.in-Some.file in
    record {
      readable = c.in_ok-newest.ensures.readable;
      widths = c.in_ok-newest.ensures.widths;
      told =
          c.loop-file.invariant.told ∙ ap (λ (l : List Ahead). settled c.loop-file.files (walked_by (map seen l) newest)) c.in-Some.ensures.steps.0
          ∙ more_settled c.loop-file.files c.step_by.new.files c.in_ok-newest.newest (stepped_by (seen file) newest) (walked_by (map seen left)) c.in_ok-newest.ensures.tells;
    }

use Rattle.std.proofs.Common.{◌||◌, ◌&&◌, get_or, ap, sym, ◌∙◌, []}
use Rattle.std.proofs.Math.Bool.{or-false}
use Rattle.sol_base.specs.declared.key.Hash32.{Hash32}
use Rattle.sol_base.specs.Keys.{same_hash}
use Rattle.status_cache.specs.Recent.{has_name}
use Rattle.status_cache.proofs.SoughtLaws.{name_added, found_more}
use Rattle.status_cache.proofs.among.add_found.Goals as goal
use Rattle.status_cache.proofs.among.add_found.Goals.{then-has+in_ok-insert, else-has}

pub loop-message-preserved : goal.loop-message-preserved
loop-message-preserved c =
    let d : Hash32 = record { 0 = [] } in
    let m = get_or c.args.messages.now c.loop-message.message-index d in
    let old = c.loop-message.found in
    found_more (has_name c.args.sought.now) (has_name c.args.found.now) (has_name old) (has_name c.if-has.found)
    c.args.messages.now c.loop-message.message-index d c.loop-message-test.true c.loop-message.invariant
    (elim c.if-has.branch [
      | then-has+in_ok-insert w ↦ λ q.
          ap (λ s. has_name s q) w.found-is ∙ name_added old w.insert.new.self m w.in_ok-insert.ensures.updates.0 q
          ∙ ap (λ t. has_name old q || (t && same_hash m q)) (sym w.if-has.true ∙ c.has.ensures)
      | else-has w ↦ λ q.
          ap (λ s. has_name s q) w.found-is ∙ sym (or-false (has_name old q))
          ∙ ap (λ t. has_name old q || (t && same_hash m q)) (sym w.if-has.false ∙ c.has.ensures)
    ])

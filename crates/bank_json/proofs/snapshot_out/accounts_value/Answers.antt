use Rattle.std.proofs.Common.{List, ◌++◌, length, map, sym, ap, ◌∙◌, append-nil, arith}
use Rattle.std.specs.Arc.{arc_value}
use Rattle.serde_json.specs.Data.{Data, array}
use Rattle.serde_json.specs.View.{view, items_of}
use Rattle.serde_json.proofs.Views.{view-Array}
use Rattle.sol_base.specs.declared.account.Account.{Account}
use Rattle.account_store.specs.State.{entries}
use Rattle.account_store.specs.Shared.{seen}
use Rattle.bank_json.specs.SnapshotJson.{account_json}
use Rattle.json_parts.proofs.Lists.{shows_on}
use Rattle.bank_json.proofs.snapshot_out.accounts_value.Goals as goal

pub loop-key-preserved : goal.loop-key-preserved
loop-key-preserved c =
    shows_on account_json c.loop-key.values.items c.push.new.self.items c.in_ok-account_value.field-0
    (entries c.args.accounts.now) (seen c.loop-key.rest) (seen c.next.new.self)
    (c.in-Some.key.now, arc_value c.in-Some.account.now) c.loop-key.invariant
    (ap seen c.in-Some.ensures.steps)
    (c.in_ok-account_value.ensures ∙ ap (λ (a : Account). account_json (c.in-Some.key.now, a)) c.deref.ensures) c.in_ok-push.ensures.items

pub loop-key-smaller : goal.loop-key-smaller
loop-key-smaller c = omega (arith, ap length c.in-Some.ensures.steps)

pub returns : goal.returns
returns c =
    let none = ap seen c.in_default.ensures.steps.0 in
    let all = ap (λ l. map view c.loop-key.values.items ++ map account_json l) (sym none) ∙ c.loop-key.invariant in
    view-Array c.loop-key.values ∙ ap (λ (ds : List Data). array (items_of ds)) (sym (append-nil (map view c.loop-key.values.items)) ∙ all)

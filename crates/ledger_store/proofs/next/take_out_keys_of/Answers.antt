use Rattle.std.proofs.Common.{List, map, length, sym, ◌∙◌, ap, arith}
use Rattle.sol_base.specs.declared.key.Key.{Key}
use Rattle.sol_base.specs.declared.account.Account.{Account}
use Rattle.account_store.specs.State.{State}
use Rattle.account_store.specs.Shared.{seen}
use Rattle.snapshot_codec.proofs.Walk.{none_left}
use Rattle.ledger_store.specs.Changes.{without}
use Rattle.ledger_store.proofs.next.take_out_keys_of.Goals as goal

abbrev keys : List (Key × Account) → List Key
keys es = map (λ (e : Key × Account). e.0) es

pub loop-key-init : goal.loop-key-init
loop-key-init c = ap (λ (es : List (Key × Account)). without (keys es) c.args.accounts.now) c.iter-rest.ensures.entries

pub loop-key-preserved : goal.loop-key-preserved
loop-key-preserved c =
    ap (λ (t : State). without (keys (seen c.next.new.self)) t) c.remove-gone.ensures.removed
    ∙ sym (ap (λ (es : List (Key × Account)). without (keys es) c.loop-key.accounts) (ap seen c.in-Some.ensures.steps)) ∙ c.loop-key.invariant

pub loop-key-smaller : goal.loop-key-smaller
loop-key-smaller c = omega (arith, ap length c.in-Some.ensures.steps)

pub returns : goal.returns
returns c =
    sym (ap (λ (es : List (Key × Account)). without (keys es) c.loop-key.accounts)
    (ap seen (none_left c.next.result c.loop-key.rest c.next.new.self c.in_default.not-Some
    c.next.ensures.steps))) ∙ c.loop-key.invariant

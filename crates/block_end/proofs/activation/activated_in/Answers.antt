use Rattle.std.proofs.Common.{◌++◌, List, length, sym, ap, ◌∙◌, arith, append-nil}
use Rattle.std.specs.List.{filter_map}
use Rattle.sol_base.specs.declared.key.Key.{Key}
use Rattle.sol_base.specs.declared.account.Account.{Account}
use Rattle.account_store.specs.declared.sorted.KeyedAccount.{KeyedAccount}
use Rattle.account_store.specs.Shared.{seen}
use Rattle.snapshot_codec.proofs.Walk.{none_left}
use Rattle.block_end.specs.Activation.{activated_entry}
use Rattle.block_end.proofs.activation.activated_in.Goals as goal

pub loop-key-init : goal.loop-key-init
loop-key-init c = record {
  found = ap (λ (l : List KeyedAccount). l ++ filter_map activated_entry (seen c.iter-rest.result)) c.new-found.ensures.items ∙ ap (filter_map activated_entry) c.iter-rest.ensures.entries;
  state = c.iter-rest.ensures.state;
}

pub loop-key-smaller : goal.loop-key-smaller
loop-key-smaller c = omega (arith, ap length c.in-Some.ensures.steps)

pub returns-clause-found : goal.returns-clause-found
returns-clause-found c =
    let left = ap seen (none_left c.next.result c.loop-key.rest c.next.new.self c.in_default.not-Some c.next.ensures.steps) in
    sym (append-nil c.loop-key.found.items) ∙ ap (λ (l : List (Key × Account)). c.loop-key.found.items ++ filter_map activated_entry l) (sym left) ∙ c.loop-key.invariant.found

use Rattle.std.proofs.Common.{◌≡◌, ◌∙◌, ◌<◌, ◌≤◌, ◌+◌, List, ap, get_or, length, subst, sym}
use Rattle.sol_base.specs.declared.account.Account.{Account}
use Rattle.sol_base.specs.Accounts.{accounts_of}
use Rattle.message_codec.specs.declared.message.Instruction.{Instruction}
use Rattle.invoke_engine.specs.Invoked.{fixed_in}
use Rattle.tx_exec.specs.declared.transaction.Transaction.{Transaction}
use Rattle.tx_exec.proofs.Fitting.{named_at}
use Rattle.tx_exec.proofs.Steps.{Stands, all_done, bad, good}
use Rattle.tx_exec.proofs.executing.execute.Goals as goal

pub returns-in-Failed-clause-exact : goal.returns-in-Failed-clause-exact
returns-in-Failed-clause-exact g c =
    let items = c.as_slice-instruction-items.ensures ∙ ap (λ (t : Transaction). t.chosen.now.tx.message.instructions) c.transaction.view_is in
    let here = subst (λ (is : List Instruction). c.instruction-item.result ≡ get_or is c.loop-index.index c.instruction-item.result) items c.instruction-item.is in
    let below = subst (λ (is : List Instruction). c.loop-index.index < length is) items c.loop-index-test.true in
    sym (bad (fixed_in c.args.transaction.now.context) c.args.transaction.now.chosen.now c.requires.keys
    (accounts_of c.args.base.now) c.loop-index.index c.loop-index.accounts c.loop-index.units
    c.loop-index.trace c.loop-index.log c.loop-index.invariant c.instruction-item.result below here
    (named_at c.args.transaction.now.chosen.now c.requires.chosen c.loop-index.index
    c.instruction-item.result below here) c.in_ok-ran.ran c.run_one.new.logs c.in_ok-ran.ensures
    c.in-Failed.error c.in-Failed.is)

pub loop-index-preserved : goal.loop-index-preserved
loop-index-preserved g c =
    let items = c.as_slice-instruction-items.ensures ∙ ap (λ (t : Transaction). t.chosen.now.tx.message.instructions) c.transaction.view_is in
    let here = subst (λ (is : List Instruction). c.instruction-item.result ≡ get_or is c.loop-index.index c.instruction-item.result) items c.instruction-item.is in
    let below = subst (λ (is : List Instruction). c.loop-index.index < length is) items c.loop-index-test.true in
    subst (λ (accounts : List Account). Stands (fixed_in c.args.transaction.now.context)
    c.args.transaction.now.chosen.now (accounts_of c.args.base.now) (c.loop-index.index + 1) accounts
    c.in_ok-ran.ran.units c.in_ok-ran.ran.trace c.run_one.new.logs) (sym c.of-accounts.ensures)
    (good (fixed_in c.args.transaction.now.context) c.args.transaction.now.chosen.now c.requires.keys
    (accounts_of c.args.base.now) c.loop-index.index c.loop-index.accounts c.loop-index.units
    c.loop-index.trace c.loop-index.log c.loop-index.invariant c.instruction-item.result below here
    (named_at c.args.transaction.now.chosen.now c.requires.chosen c.loop-index.index
    c.instruction-item.result below here) c.in_ok-ran.ran c.run_one.new.logs c.in_ok-ran.ensures
    c.in-Good.after c.in-Good.is)

pub returns-clause-exact : goal.returns-clause-exact
returns-clause-exact g c =
    let items = c.as_slice-instruction-items.ensures ∙ ap (λ (t : Transaction). t.chosen.now.tx.message.instructions) c.transaction.view_is in
    let past = subst (λ (is : List Instruction). length is ≤ c.loop-index.index) items c.loop-index-test.false in
    sym (all_done (fixed_in c.args.transaction.now.context) c.args.transaction.now.chosen.now
    (accounts_of c.args.base.now) c.loop-index.index c.loop-index.accounts c.loop-index.units
    c.loop-index.trace c.loop-index.log c.loop-index.invariant past)

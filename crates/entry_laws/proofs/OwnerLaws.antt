-- The stretches of a block's entries.
use Rattle.std.proofs.Common.{◌≡◌, List, All, sym, ap, ◌∙◌}
use Rattle.std.proofs.lemmas.List.{length-map}
use Rattle.std.proofs.lemmas.List.Elements.{All-from_recursion}
use Rattle.sol_base.specs.declared.account.Account.{Account}
use Rattle.message_codec.specs.Roles.{all_keys}
use Rattle.tx_report.specs.declared.outcome.Outcome.{Outcome}
use Rattle.account_store.specs.State.{at}
use Rattle.block_record.specs.declared.block.Entry.{Entry}
use Rattle.tx_report.specs.declared.status.Status.TheVariants.{Good}
use Rattle.admission.specs.declared.chosen.Chosen.{Chosen}
use Rattle.admission.specs.Chosen.{IsChosen}
use Rattle.tx_exec.specs.declared.admitted.AdmittedBlock.{AdmittedBlock}
use Rattle.tx_exec.specs.AdmittedBlock.{block_of}
use Rattle.tx_exec.specs.Transaction.{transaction}
use Rattle.block_run.specs.SerialRun.{told_in}
use Rattle.block_laws.specs.Keeping.{order_of}
use Rattle.block_laws.proofs.Keeps.{admitted_fit}
use Rattle.entry_laws.specs.Entries.{state_in}
use Rattle.entry_laws.specs.Owners.{GoodEntriesRunInStretches, accounts_of, stretches_at}
use Rattle.entry_laws.specs.Stretches.{KeepsWhatIsNotItsOwn}
use Rattle.entry_laws.proofs.EntryLaws.{IsOfEntry, all_at, of_entry}
use Rattle.entry_laws.proofs.Steps.{comes_to, under_its_keys, under_other_keys}
use Rattle.entry_laws.proofs.StretchLaws.{resting_keeps, transaction_stretches}

pub good_run_in_stretches : GoodEntriesRunInStretches
good_run_in_stretches s batch runs i entry tx name e good =
    let of : IsOfEntry s batch i entry tx name = of_entry s batch i entry tx name e in
    let order : List Chosen = order_of s batch in
    let told : AdmittedBlock = told_in s batch.slot order in
    let all : All IsChosen order = admitted_fit s batch runs in
    let t : Chosen = of.t in
    let fits : IsChosen t = all_at IsChosen order i t all of.chosen in
    let given : List Account = accounts_of s batch i t in
    let status : (transaction (block_of told) t given).outcome.status ≡ Good =
    sym (ap (λ (o : Outcome). o.status) (comes_to told all s.accounts runs.0.state i of.below t of.chosen fits))
    ∙ sym (ap (λ (x : Entry). x.status) of.is) ∙ good in
    let both = transaction_stretches (block_of told) t given fits (length-map (all_keys t.tx.message t.loaded) (at (state_in s batch i))) in
    record {
      t = t;
      chosen = of.chosen;
      same = of.same;
      kept = All-from_recursion KeepsWhatIsNotItsOwn (stretches_at s batch i t) both.0;
      last = (transaction (block_of told) t given).values;
      chain = both.1 status;
      resting = resting_keeps t given (transaction (block_of told) t given).values (stretches_at s batch i t) (both.1 status) both.0;
      ends = under_its_keys told all s.accounts runs.0.state i of.below t of.chosen fits;
      others = under_other_keys told all s.accounts runs.0.state i of.below t of.chosen fits;
    }

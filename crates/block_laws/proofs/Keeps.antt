-- What is kept by transactions that are fit to run is kept by those of a batch.
use Rattle.std.proofs.Common.{List, [], ◌∷◌, All}
use Rattle.std.proofs.lemmas.List.Elements.{All-take}
use Rattle.snapshot_codec.specs.declared.batch.Batch.{Batch}
use Rattle.snapshot_codec.specs.declared.snapshot.Snapshot.{Snapshot}
use Rattle.block_record.specs.declared.block.Block.{Block}
use Rattle.admission.specs.declared.chosen.Chosen.{Chosen}
use Rattle.admission.specs.declared.refusal.Refused.{Refused}
use Rattle.admission.specs.Admission.{listed}
use Rattle.admission.specs.Chosen.{IsChosen}
use Rattle.block_run.specs.Blocks.{before_refused, block_result, head_of, listed_result, start_in, wires_of}
use Rattle.block_laws.proofs.Conserved.{activated_are_ready, burned_is_all, executables_stay, fees_leave}
use Rattle.block_laws.specs.Keeping.{BlocksKeepLamports, NewProgramsAreReady, NewProgramsAreReadyAgain, ProgramsStay, ProgramsStayAgain, ReplaysKeepLamports, CanRun, TransactionsTakeTheirFees, order_again, order_of}
use Rattle.block_laws.proofs.Fit.{admitted_are_chosen, listed_are_chosen}
use Rattle.block_run.proofs.Orders.{before_are_chosen}

pub admitted_fit : (s : Snapshot) (batch : Batch) → CanRun s batch.wires → All IsChosen (order_of s batch)
admitted_fit s batch runs = admitted_are_chosen (start_in s) batch.wires runs.0.limits.keys.1 runs.1

pub listed_fit : (s : Snapshot) (given : Block) → CanRun s (wires_of given) → All IsChosen (order_again s given)
listed_fit s given runs =
    let a = listed (start_in s) (wires_of given) in
    before_are_chosen a.refused a.order (listed_are_chosen (start_in s) (wires_of given) runs.0.limits.keys.1 runs.1)

pub fees_taken : TransactionsTakeTheirFees
fees_taken s batch runs = fees_leave s batch.slot (order_of s batch) runs.0 (admitted_fit s batch runs)

pub lamports_kept : BlocksKeepLamports
unfolding block_result
lamports_kept s batch runs = burned_is_all s (head_of batch) batch.wires (order_of s batch) runs.0 (admitted_fit s batch runs)

pub lamports_kept_again : ReplaysKeepLamports
unfolding listed_result
lamports_kept_again s given runs = burned_is_all s (record { slot = given.slot; collector = given.collector }) (wires_of given) (order_again s given) runs.0 (listed_fit s given runs)

pub programs_stay : ProgramsStay
programs_stay s batch runs = executables_stay s batch.slot (order_of s batch) runs.0 (admitted_fit s batch runs)

pub new_programs_ready : NewProgramsAreReady
unfolding block_result
new_programs_ready s batch runs = activated_are_ready s (head_of batch) batch.wires (order_of s batch) runs.0 (admitted_fit s batch runs)

pub programs_stay_again : ProgramsStayAgain
programs_stay_again s given runs = executables_stay s given.slot (order_again s given) runs.0 (listed_fit s given runs)

pub new_programs_ready_again : NewProgramsAreReadyAgain
new_programs_ready_again s given runs = activated_are_ready s (record { slot = given.slot; collector = given.collector }) (wires_of given) (order_again s given) runs.0 (listed_fit s given runs)

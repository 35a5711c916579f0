-- How many entries a block has.
use Rattle.std.proofs.Common.{◌≡◌, ℕ, length, ◌∙◌, arith}
use Rattle.std.specs.Prelude.{min}
use Rattle.std.proofs.lemmas.List.{length-map}
use Rattle.std.proofs.lemmas.List.FromFn.{length-map-range_with_len}
use Rattle.std.proofs.lemmas.Slice.Zip.{length-zip}
use Rattle.snapshot_codec.specs.declared.snapshot.Snapshot.{Snapshot}
use Rattle.snapshot_codec.specs.declared.batch.Batch.{Batch}
use Rattle.admission.specs.Admission.{admitted}
use Rattle.block_run.specs.SerialRun.{serial_run}
use Rattle.block_run.specs.Blocks.{block_result, closed, start_in}

least_of_two : (n m : ℕ) → m ≡ n → min n m ≡ n
least_of_two n m e = omega (arith, e)

-- each transaction that is admitted has an entry
pub entry_count : (s : Snapshot) (b : Batch) → length (block_result s b).block.entries ≡ length (admitted (start_in s) b.wires).order
unfolding block_result closed serial_run
entry_count s b = length-map _ _ ∙ (length-zip _ _ ∙ least_of_two _ _ (length-map-range_with_len _ 0 _))

-- A block depends on the limits, the newest blocks and the accounts of its snapshot alone.
use Rattle.std.proofs.Common.{◌≡◌, ℕ, refl, ap, ◌∙◌}
use Rattle.account_store.proofs.StateLaws.{same_state}
use Rattle.snapshot_codec.specs.declared.batch.Batch.{Batch}
use Rattle.snapshot_codec.specs.declared.snapshot.Snapshot.{Snapshot}
use Rattle.snapshot_codec.specs.Snapshot.{snapshot_bytes}
use Rattle.block_record.specs.declared.block.Block.{Block}
use Rattle.block_record.specs.Record.{bytes_of_record}
use Rattle.block_run.specs.declared.block.BlockResult.{BlockResult}
use Rattle.block_run.specs.Blocks.{block_result, closed, listed_result}
use Rattle.block_run.specs.SerialRun.{serial_run}
use Rattle.answer_laws.specs.Equal.{AreEqual, EqualSnapshotsGiveTheSame, EqualSnapshotsReplayAlike}

-- the same snapshot at another slot
abbrev at_slot : Snapshot → ℕ → Snapshot
at_slot s slot = record s { slot = slot }

same_snapshot : (one other : Snapshot) → AreEqual one other → at_slot one other.slot ≡ other
same_snapshot one other equal =
    let accounts = same_state one.accounts other.accounts equal.accounts in
    λ i. record { slot = other.slot; limits = equal.limits i; recent = equal.recent i; accounts = accounts i }

any_slot : (s : Snapshot) (slot : ℕ) (batch : Batch) → block_result s batch ≡ block_result (at_slot s slot) batch
unfolding block_result closed serial_run
any_slot s slot batch = refl

any_slot_again : (s : Snapshot) (slot : ℕ) (given : Block) → listed_result s given ≡ listed_result (at_slot s slot) given
unfolding listed_result closed serial_run
any_slot_again s slot given = refl

same_result : (one other : Snapshot) (batch : Batch) → AreEqual one other → block_result one batch ≡ block_result other batch
same_result one other batch equal = any_slot one other.slot batch ∙ ap (λ (s : Snapshot). block_result s batch) (same_snapshot one other equal)

pub give_the_same : EqualSnapshotsGiveTheSame
give_the_same one other batch equal =
    let same = same_result one other batch equal in
    record {
      block = same;
      written = ap (λ (r : BlockResult). bytes_of_record r.block) same;
      after = ap (λ (r : BlockResult). snapshot_bytes r.after) same;
    }

pub replay_alike : EqualSnapshotsReplayAlike
replay_alike one other given equal = any_slot_again one other.slot given ∙ ap (λ (s : Snapshot). listed_result s given) (same_snapshot one other equal)

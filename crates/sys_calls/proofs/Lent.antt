-- No write and no copy changes which accounts the input was made to lend.
use Rattle.std.proofs.Common.{◌≡◌, ℕ, Bool, List, Result, Ok, Err, ap}
use Rattle.sbpf_memory.specs.declared.fault.MemFault.{MemFault}
use Rattle.sbpf_memory.specs.declared.fault.MemFault.TheVariants.{AccessViolation, Overlap, OutOfMemory as no_memory}
use Rattle.sbpf_memory.specs.Memory.{Ranges, write_to, copy_to, or_refusal, Answers}
use Rattle.sys_calls.proofs.Prepares.{ok-of}
use Rattle.sys_calls.proofs.Rows.{written, copied-kept}

same-lent : (m after : Ranges) → after ≡ m → after.input.lent ≡ m.input.lent
same-lent m after stays = ap (λ (n : Ranges). n.input.lent) stays

pub write-lent : (m after : Ranges) (addr : ℕ) (bytes : List ℕ) (result : Result (Unit {0}) MemFault) → Answers (or_refusal (write_to m addr bytes)) m after result → after.input.lent ≡ m.input.lent
write-lent m after addr bytes (Ok done) answer = (written m after addr bytes (ok-of after (write_to m addr bytes) answer)).lent
write-lent m after addr bytes (Err no_memory) answer = same-lent m after answer.0
write-lent m after addr bytes (Err Overlap) answer = same-lent m after answer.1
write-lent m after addr bytes (Err (AccessViolation a n w)) answer = same-lent m after answer.1

pub copy-lent : (m after : Ranges) (to from len : ℕ) (apart : Bool) → copy_to m to from len apart ≡ Ok after → after.input.lent ≡ m.input.lent
copy-lent m after to from len apart copied = let kept = rw copied at (copied-kept m to from len apart) in kept.lent

-- What a preparation leaves.
use Rattle.std.proofs.Common.{◌≡◌, ℕ, ◌≤◌, Option, Some, Result, subst, sym, ◌∙◌, ap, arith}
use Rattle.std.proofs.lemmas.Bool.Decides.{nat_tests}
use Rattle.sbpf_memory.specs.declared.fault.AccessViolation.{AccessViolation}
use Rattle.sbpf_memory.specs.declared.fault.MemFault.{MemFault}
use Rattle.sbpf_memory.specs.declared.place.Place.{Place}
use Rattle.sbpf_memory.specs.Memory.{Ranges, KeepsBytes, IsPrepared, PreparedIn, PreparedAt, Prepares, PreparesIn, place_of, refused_in, refused_at, write_refusal}

-- places are found by the lengths of ranges alone
pub place-kept : (old new : Ranges) (addr len : ℕ) → KeepsBytes old new → place_of new addr len ≡ place_of old addr len
unfolding place_of
place-kept old new addr len kept = rw (kept.program, kept.heap, kept.input)

pub write_refusal-some : (m : Ranges) (addr len : ℕ) → 1 ≤ len → write_refusal m addr len ≡ refused_at addr len (place_of m addr len)
unfolding write_refusal
write_refusal-some m addr len some = grind (arith, nat_tests)

pub prepares-at : (old new : Ranges) (addr len : ℕ) (place : Place) (result : Result (Unit {0}) MemFault) → KeepsBytes old new → 1 ≤ len → place_of old addr len ≡ Some place
    → PreparesIn (refused_in addr len place.region) (PreparedIn new len place.at place.region) result → Prepares old addr len new result
unfolding IsPrepared
prepares-at old new addr len place result kept some found answer =
    let Ready : Option Place → Type 0 = λ p. PreparesIn (refused_in addr len place.region) (PreparedAt new len p) result in
    let Refusal : Option AccessViolation → Type 0 = λ r. PreparesIn r (PreparedAt new len (place_of new addr len)) result in
    subst Refusal (sym (write_refusal-some old addr len some ∙ ap (refused_at addr len) found))
    (subst Ready (sym (place-kept old new addr len kept ∙ found)) answer)

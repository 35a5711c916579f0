-- A copy of a range onto itself that is to stand apart tells whether the range may be read.
use Rattle.std.proofs.Common.{◌≡◌, ℕ, ◌≤◌, ◌&&◌, Bool, true, false, List, Result, Ok, Err, IsOk, MatchResult, nat_lt, refl, ap, arith}
use Rattle.std.proofs.lemmas.Bool.Decides.{nat_tests}
use Rattle.sbpf_memory.specs.declared.fault.AccessViolation.{AccessViolation}
use Rattle.sbpf_memory.specs.declared.fault.MemFault.{MemFault}
use Rattle.sbpf_memory.specs.declared.fault.MemFault.TheVariants.{AccessViolation as violation, Overlap, OutOfMemory as no_memory}
use Rattle.sbpf_memory.specs.Memory.{Ranges, read_from, violation_of, write_to, copy_of, copy_to, or_overlap, meet, Answers}
use Rattle.sbpf_memory.specs.Plain.{plain_memory}
use Rattle.sbpf_memory.proofs.Reading.{read-refused}
use Rattle.sbpf_memory.proofs.Writing.{write-refused}
use Rattle.sys_calls.specs.Access.{IsReadable, bytes_read, refused_read, violated_by}
use Rattle.sbpf_memory.proofs.Plain.{read-plain}

-- ranges of at least one byte that begin at one address meet
meets : (addr len : ℕ) → 1 ≤ len → (true && nat_lt 0 len && meet addr addr len) ≡ true
meets addr len some = grind (arith, nat_tests)

not_done : (w : Result Ranges AccessViolation) → IsOk (or_overlap true w) → ⊥
not_done (Ok m) ok = cc
not_done (Err v) ok = cc

never_done : (m : Ranges) (to : ℕ) (r : Result (List ℕ) AccessViolation) → IsOk (copy_of m to true r) → ⊥
never_done m to (Ok bytes) ok = not_done (write_to m to bytes) ok
never_done m to (Err v) ok = cc

-- such a copy is never done
pub copy-self : (m : Ranges) (addr len : ℕ) → 1 ≤ len → IsOk (copy_to m addr addr len true) → ⊥
unfolding copy_to
copy-self m addr len some ok = never_done m addr (read_from m addr len) (rw (meets addr len some) at ok)

by_overlap : (m : Ranges) (to : ℕ) (b : Bool) (r : Result (List ℕ) AccessViolation) → copy_of m to b r ≡ Err Overlap → IsOk r
by_overlap m to b (Ok bytes) h = refl
by_overlap m to b (Err v) h = absurd (cc)

-- what overlaps is read
pub overlap-reads : (m : Ranges) (to from len : ℕ) (apart : Bool) → copy_to m to from len apart ≡ Err Overlap → IsOk (read_from m from len)
unfolding copy_to
overlap-reads m to from len apart h = by_overlap m to _ (read_from m from len) h

by_write : (m : Ranges) (to a n : ℕ) (b : Bool) (r : Result (List ℕ) AccessViolation) → ((v : AccessViolation) → r ≡ Err v → v.write ≡ false) → copy_of m to b r ≡ Err (violation a n true) → IsOk r
by_write m to a n b (Ok bytes) reads h = refl
by_write m to a n b (Err v) reads h = let no : v.write ≡ false = reads v refl in absurd (cc)

-- a copy that is refused for its write is read
pub write-reads : (m : Ranges) (to from len a n : ℕ) (apart : Bool) → copy_to m to from len apart ≡ Err (violation a n true) → IsOk (read_from m from len)
unfolding copy_to
write-reads m to from len a n apart h =
    by_write m to a n _ (read_from m from len) (λ v refused. ap (λ (w : AccessViolation). w.write) (read-refused m from len v refused)) h

by_read : (a n : ℕ) (b : Bool) (w : Result Ranges AccessViolation) → ((v : AccessViolation) → w ≡ Err v → v.write ≡ true) → or_overlap b w ≡ Err (violation a n false) → ⊥
by_read a n true (Ok m) writes h = cc
by_read a n false (Ok m) writes h = cc
by_read a n b (Err v) writes h = let yes : v.write ≡ true = writes v refl in cc

-- the access that a copy was refused for
abbrev access_of : AccessViolation → Result Ranges MemFault → AccessViolation
access_of other (Err (violation a n w)) = violation_of a n w
access_of other _ = other

refused : (m : Ranges) (to a n : ℕ) (b : Bool) (r : Result (List ℕ) AccessViolation) → copy_of m to b r ≡ Err (violation a n false) → r ≡ Err (violation_of a n false)
refused m to a n b (Err v) h = let same : v ≡ violation_of a n false = ap (access_of v) h in ap Err same
refused m to a n b (Ok bytes) h =
    absurd (by_read a n b (write_to m to bytes) (λ v no. ap (λ (w : AccessViolation). w.write) (write-refused m to bytes v no)) h)

-- a copy that is refused for its read is refused as the read is
pub read-refuses : (m : Ranges) (to from len a n : ℕ) (apart : Bool) → copy_to m to from len apart ≡ Err (violation a n false) → read_from m from len ≡ Err (violation_of a n false)
unfolding copy_to
read-refuses m to from len a n apart h = refused m to a n _ (read_from m from len) h

-- what such a copy answers tells whether the range may be read, and the memory stays
pub record Told (m new : Ranges) (addr len : ℕ) (copied : Result (Unit {0}) MemFault) : Type 0 where
  pub answer : MatchResult (refused_read copied) (λ _. IsReadable (plain_memory m) addr len)
      (λ fault. (fault ≡ violated_by (violation_of addr len false))
      × (bytes_read (plain_memory m) addr len ≡ Err fault))
  pub memory : new ≡ m

pub told : (m new : Ranges) (addr len : ℕ) (copied : Result (Unit {0}) MemFault) → 1 ≤ len → Answers (copy_to m addr addr len true) m new copied → Told m new addr len copied
told m new addr len (Ok done) some answer = absurd (copy-self m addr len some (rw answer refl))
told m new addr len (Err Overlap) some answer = record { answer = rw (read-plain m addr len) (overlap-reads m addr addr len true answer.0); memory = answer.1 }
told m new addr len (Err no_memory) some answer = absurd (copy-self m addr len some answer.1)
told m new addr len (Err (violation a n true)) some answer = record { answer = rw (read-plain m addr len) (write-reads m addr addr len a n true answer.0); memory = answer.1 }
told m new addr len (Err (violation a n false)) some answer =
    let r = read-refuses m addr addr len a n true answer.0 in
    record { answer = (ap violated_by (read-refused m addr len (violation_of a n false) r), rw (read-plain m addr len, r) refl); memory = answer.1 }

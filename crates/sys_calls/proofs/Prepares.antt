-- Writes that were prepared for.
use Rattle.std.proofs.Common.{◌≡◌, ℕ, List, length, Option, Some, None, Result, Ok, Err, IsOk, refl, sym, subst, ◌∙◌, ap}
use Rattle.std.proofs.lemmas.List.{length-replicate}
use Rattle.std.specs.Prelude.{Bool}
use Rattle.spec_base.specs.Reading.{◌>>=◌}
use Rattle.data_parts.specs.Parts.{ArePrepared}
use Rattle.sbpf_memory.specs.declared.fault.AccessViolation.{AccessViolation}
use Rattle.sbpf_memory.specs.declared.fault.MemFault.{MemFault}
use Rattle.sbpf_memory.specs.declared.fault.MemFault.TheVariants.{AccessViolation as violation, Overlap, OutOfMemory as no_memory}
use Rattle.sbpf_memory.specs.declared.place.Place.{Place}
use Rattle.sbpf_memory.specs.declared.place.Region.{Region}
use Rattle.sbpf_memory.specs.declared.place.Region.TheVariants.{Program, Stack, Heap, Input}
use Rattle.sbpf_memory.specs.Memory.{Ranges, KeepsBytes, place_of, write_to, write_refusal, or_refusal, Answers, HasMemory, IsPrepared, PreparedAt, PreparedIn}
use Rattle.sbpf_memory.specs.Plain.{plain_memory, plain_written}
use Rattle.sbpf_memory.proofs.Keeping.{Kept, kept-place, write-kept}
use Rattle.sbpf_memory.proofs.Prepared.{place-kept}
use Rattle.sbpf_memory.proofs.Writing.{write_to-refused, write_to-ok}
use Rattle.sys_calls.specs.declared.fault.SysFault.{SysFault}
use Rattle.sys_calls.specs.Access.{bytes_written, violated_by, write_checked, or_tt, or_violation}
use Rattle.sys_calls.specs.SysCalls.{both_written}
use Rattle.sbpf_memory.proofs.Plain.{write-plain}

refused : (m : Ranges) (addr : ℕ) (bytes : List ℕ) (e : SysFault) (o : Option AccessViolation)
    → write_refusal m addr (length bytes) ≡ o → or_tt o ≡ Err e
    → bytes_written (plain_memory m) addr bytes ≡ Err e
refused m addr bytes e None found h = absurd (cc)
refused m addr bytes e (Some v) found h =
    let same : violated_by v ≡ e = cc in
    rw (write-plain m addr bytes, write_to-refused m addr bytes v found) (ap Err same)

-- what is refused when it is prepared for is refused when it is written
pub checked-refuses : (m : Ranges) (addr len : ℕ) (bytes : List ℕ) (e : SysFault) → length bytes ≡ len → write_checked m addr len ≡ Err e → bytes_written (plain_memory m) addr bytes ≡ Err e
checked-refuses m addr len bytes e size h = refused m addr bytes e (write_refusal m addr (length bytes)) refl (rw size h)

-- a memory of which nothing but prepared places changed is the same
pub plain-kept : (old new : Ranges) → KeepsBytes old new → plain_memory new ≡ plain_memory old
plain-kept old new kept = cc (kept.program, kept.stack, kept.heap, kept.input)

pub ok-of : (m : Ranges) (r : Result Ranges AccessViolation) → or_refusal r ≡ Ok m → r ≡ Ok m
ok-of m (Ok n) h = cc
ok-of m (Err v) h = absurd (cc)

pub refusal-kept : (old new : Ranges) (addr len : ℕ) → KeepsBytes old new → write_refusal new addr len ≡ write_refusal old addr len
unfolding write_refusal
refusal-kept old new addr len kept = rw (place-kept old new addr len kept) refl

-- after a write the same is refused
pub refusal-written : (m after : Ranges) (addr len : ℕ) → Kept m after → write_refusal after addr len ≡ write_refusal m addr len
unfolding write_refusal
refusal-written m after addr len kept = rw (kept-place m after addr len kept) refl

prepared_in : (m after : Ranges) (len at : ℕ) (region : Region) → Kept m after → PreparedIn m len at region → PreparedIn after len at region
prepared_in m after len at Program kept h = tt
prepared_in m after len at Stack kept h = tt
prepared_in m after len at Heap kept h = tt
prepared_in m after len at Input kept h = subst (λ (prepared : List Bool). ArePrepared prepared at len) (sym kept.prepared) h

prepared_at : (m after : Ranges) (len : ℕ) (p : Option Place) → Kept m after → PreparedAt m len p → PreparedAt after len p
prepared_at m after len None kept h = tt
prepared_at m after len (Some place) kept h = prepared_in m after len place.at place.region kept h

-- and the same is prepared
pub prepared-written : (m after : Ranges) (addr len : ℕ) → Kept m after → IsPrepared m addr len → IsPrepared after addr len
unfolding IsPrepared
prepared-written m after addr len kept h = subst (PreparedAt after len) (sym (kept-place m after addr len kept)) (prepared_at m after len (place_of m addr len) kept h)

-- a write that is not refused, and takes no memory, is done
pub done : (m after : Ranges) (w : Result Ranges AccessViolation) (result : Result (Unit {0}) MemFault) → IsOk w → HasMemory result → Answers (or_refusal w) m after result → w ≡ Ok after
done m after w (Ok x) ok has answer = ok-of after w answer
done m after w (Err no_memory) ok has answer = absurd has
done m after (Ok n) (Err Overlap) ok has answer = let h : or_refusal (Ok n) ≡ Err Overlap = answer.0 in absurd (cc)
done m after (Ok n) (Err (violation a b c)) ok has answer = let h : or_refusal (Ok n) ≡ Err (violation a b c) = answer.0 in absurd (cc)
done m after (Err v) (Err Overlap) ok has answer = absurd (cc)
done m after (Err v) (Err (violation a b c)) ok has answer = absurd (cc)

-- two writes that are both prepared for are both done
pub both-done : (m0 m1 m2 m3 m4 : Ranges) (to : ℕ) (first : List ℕ) (other : ℕ) (second : List ℕ) (result : Result (Unit {0}) MemFault) → KeepsBytes m0 m1 → KeepsBytes m1 m2
    → write_refusal m1 other (length second) ≡ None → IsPrepared m2 other (length second) → or_refusal (write_to m2 to first) ≡ Ok m3
    → Answers (or_refusal (write_to m3 other second)) m3 m4 result
    → (IsPrepared m3 other (length second) → HasMemory result)
    → both_written (plain_memory m0) to first other second ≡ Ok (plain_memory m4)
unfolding both_written
both-done m0 m1 m2 m3 m4 to first other second result one two free prepared wrote answer ready =
    let w1 : write_to m2 to first ≡ Ok m3 = ok-of m3 (write_to m2 to first) wrote in
    let kept = write-kept m2 m3 to first w1 in
    let free3 : write_refusal m3 other (length second) ≡ None = refusal-written m2 m3 other (length second) kept ∙ refusal-kept m1 m2 other (length second) two ∙ free in
    let w2 : write_to m3 other second
    ≡ Ok m4 = done m3 m4 (write_to m3 other second) result (write_to-ok m3 other second free3)
    (ready (prepared-written m2 m3 other (length second) kept prepared)) answer in
    let same : plain_memory m2 ≡ plain_memory m0 = plain-kept m1 m2 two ∙ plain-kept m0 m1 one in
    rw (← same, write-plain m2 to first, w1, write-plain m3 other second, w2) refl

then-refused : (m m1 : Ranges) (to : ℕ) (first : List ℕ) (other : ℕ) (second : List ℕ) (e : SysFault)
    (r : Result Ranges AccessViolation) → KeepsBytes m m1 → write_to m to first ≡ r → IsOk r
    → write_checked m1 other (length second) ≡ Err e
    → (or_violation (plain_written r) >>= (λ after. bytes_written after other second)) ≡ Err e
then-refused m m1 to first other second e (Ok after) kept wrote ok h =
    let same : write_refusal after other (length second)
    ≡ write_refusal m1 other (length second) = refusal-written m after other (length second)
    (write-kept m after to first wrote) ∙ sym (refusal-kept m m1 other (length second) kept) in
    checked-refuses after other (length second) second e refl (ap or_tt same ∙ h)
then-refused m m1 to first other second e (Err v) kept wrote ok h = absurd (cc)

-- the second of two writes is refused
pub second-refused : (m m1 : Ranges) (to : ℕ) (first : List ℕ) (other : ℕ) (second : List ℕ) (e : SysFault)
    → KeepsBytes m m1 → write_refusal m to (length first) ≡ None
    → write_checked m1 other (length second) ≡ Err e
    → both_written (plain_memory m) to first other second ≡ Err e
unfolding both_written
second-refused m m1 to first other second e kept free h =
    rw (write-plain m to first) (then-refused m m1 to first other second e (write_to m to first) kept refl (write_to-ok m to first free) h)

pub ruleset refusals = (checked-refuses, plain-kept, length-replicate)

pub ruleset both = (checked-refuses, second-refused, plain-kept)

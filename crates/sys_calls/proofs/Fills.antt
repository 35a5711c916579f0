-- A range that is filled piece by piece.
use Rattle.std.proofs.Common.{◌≡◌, ℕ, zero, suc, ◌+◌, ◌≤◌, ◌<◌, ◌^◌, true, List, [], ◌++◌, length, replicate, Option, Some, None, Result, Ok, IsOk, refl, sym, ap, subst, ◌∙◌, arith}
use Rattle.std.specs.Prelude.{slice_get}
use Rattle.std.proofs.lemmas.List.{length-replicate, replicate-append-replicate}
use Rattle.data_parts.proofs.PartLaws.{with_more, with_none}
use Rattle.sbpf_memory.specs.declared.fault.AccessViolation.{AccessViolation}
use Rattle.sbpf_memory.specs.declared.fault.MemFault.{MemFault}
use Rattle.sbpf_memory.specs.declared.place.Place.{Place}
use Rattle.sbpf_memory.specs.declared.place.Region.{Region}
use Rattle.sbpf_memory.specs.declared.place.Region.TheVariants.{Program, Stack, Heap, Input}
use Rattle.sbpf_memory.specs.Copies.{written_in}
use Rattle.sbpf_memory.specs.Lending.{with_input}
use Rattle.sbpf_memory.specs.Memory.{Ranges, IsMemory, place_of, range_bytes, with_stack, with_heap, with_bytes_in, write_to, write_refusal, refused_at, refused_in, or_refusal, Answers, HasMemory, IsPrepared, PreparedAt, PreparedIn, KeepsBytes}
use Rattle.sbpf_memory.specs.Plain.{plain_memory}
use Rattle.sbpf_memory.proofs.Addresses.{stands-from_place}
use Rattle.sbpf_memory.proofs.Keeping.{kept-place, write-kept}
use Rattle.sbpf_memory.proofs.Reading.{room-fits}
use Rattle.sbpf_memory.proofs.Writing.{write-some, write-nothing}
use Rattle.sbpf_memory.proofs.Prepared.{write_refusal-some}
use Rattle.sys_calls.specs.Access.{bytes_written}
use Rattle.sbpf_memory.proofs.Plain.{write-plain}
use Rattle.sys_calls.proofs.Pieces.{place-part, place-low}
use Rattle.sys_calls.proofs.Prepares.{done, plain-kept, prepared-written}

written-more : (m : Ranges) (xs ys : List ℕ) (at : ℕ) (region : Region)
    → at + length xs + length ys ≤ length (range_bytes m region)
    → written_in (written_in m xs at region) ys (at + length xs) region ≡ written_in m (xs ++ ys) at region
written-more m xs ys at Program fits = refl
written-more m xs ys at Stack fits = ap (with_stack m) (with_more m.stack xs ys at fits)
written-more m xs ys at Heap fits = ap (with_heap m) (with_more m.heap xs ys at fits)
written-more m xs ys at Input fits = ap (λ (l : List ℕ). with_input m (record m.input { bytes = l })) (with_more m.input.bytes xs ys at fits)

written-none : (m : Ranges) (at : ℕ) (region : Region) → written_in m [] at region ≡ m
written-none m at Program = refl
written-none m at Stack = ap (with_stack m) (with_none m.stack at)
written-none m at Heap = ap (with_heap m) (with_none m.heap at)
written-none m at Input = ap (λ (l : List ℕ). with_input m (record m.input { bytes = l })) (with_none m.input.bytes at)

-- the program is not written
abbrev Free : Region → Type 0
Free Program = ⊥
Free Stack = Unit {0}
Free Heap = Unit {0}
Free Input = Unit {0}

in-written : (m : Ranges) (addr : ℕ) (bytes : List ℕ) (at : ℕ) (region : Region) → Free region → with_bytes_in m addr bytes at region ≡ Ok (written_in m bytes at region)
in-written m addr bytes at Program free = absurd free
in-written m addr bytes at Stack free = refl
in-written m addr bytes at Heap free = refl
in-written m addr bytes at Input free = refl

write-at : (m : Ranges) (addr len : ℕ) (bytes : List ℕ) (place : Place) → 1 ≤ len → length bytes ≡ len
    → place_of m addr len ≡ Some place → Free place.region
    → write_to m addr bytes ≡ Ok (written_in m bytes place.at place.region)
write-at m addr len bytes place some size found free =
    let found_it : place_of m addr (length bytes) ≡ Some place = rw size found in
    let has : 1 ≤ length bytes = rw size some in
    write-some m addr bytes (Some place) has found_it ∙ in-written m addr bytes place.at place.region free

free_in : (addr len : ℕ) (region : Region) → refused_in addr len region ≡ None → Free region
free_in addr len Program h = absurd (cc)
free_in addr len Stack h = tt
free_in addr len Heap h = tt
free_in addr len Input h = tt

-- where a range lies whose write is not refused
target : (m : Ranges) (addr len : ℕ) → 1 ≤ len → write_refusal m addr len ≡ None → (place : Place) × (place_of m addr len ≡ Some place) × Free place.region
target m addr len some free = by_case (place_of m addr len) refl (sym (write_refusal-some m addr len some) ∙ free)
  where
    by_case : (p : Option Place) → place_of m addr len ≡ p → refused_at addr len p ≡ None → (place : Place) × (place_of m addr len ≡ Some place) × Free place.region
    by_case None found h = absurd (cc)
    by_case (Some place) found h = (place, found, free_in addr len place.region h)

prepared_in : (m : Ranges) (count more n at : ℕ) (region : Region) → more + n ≤ count → PreparedIn m count at region → PreparedIn m n (at + more) region
prepared_in m count more n at Program fits h = tt
prepared_in m count more n at Stack fits h = tt
prepared_in m count more n at Heap fits h = tt
prepared_in m count more n at Input fits h =
    λ k below. let same : at + (more + k) ≡ at + more + k = omega arith in subst (λ (p : ℕ). slice_get m.input.prepared p ≡ Some true) same (h (more + k) (omega arith))

prepared-part : (m : Ranges) (addr count more n : ℕ) (place : Place) → IsMemory m
    → place_of m addr count ≡ Some place → 1 ≤ n → more + n ≤ count → IsPrepared m addr count
    → IsPrepared m (addr + more) n
unfolding IsPrepared
prepared-part m addr count more n place is found some fits h =
    let whole : PreparedAt m count (Some place) = subst (PreparedAt m count) found h in
    subst (PreparedAt m n) (sym (place-part m addr count more n place is found some fits)) (prepared_in m count more n place.at place.region fits whole)

front : (m : Ranges) (addr count n : ℕ) (place : Place) → IsMemory m → place_of m addr count ≡ Some place → 1 ≤ n → n ≤ count → place_of m addr n ≡ Some place
front m addr count n place is found some fits =
    let moved : place_of m (addr + 0) n ≡ Some (record { region = place.region; at = place.at + 0 }) = place-part m addr count 0 n place is found some (omega arith) in
    let here : addr + 0 ≡ addr = omega arith in
    let there : place.at + 0 ≡ place.at = omega arith in
    subst (λ (a : ℕ). place_of m a n ≡ Some place) here (moved ∙ ap (λ (a : ℕ). let p : Place = record { region = place.region; at = a } in Some p) there)

-- what was filled so far
filled-is : (m0 m : Ranges) (to at count b : ℕ) (place : Place) → IsMemory m0
    → place_of m0 to count ≡ Some place → Free place.region → at ≤ count
    → write_to m0 to (replicate at b) ≡ Ok m → m ≡ written_in m0 (replicate at b) place.at place.region
filled-is m0 m to zero count b place is found free fits wrote =
    let nothing : (let r : Result Ranges AccessViolation = Ok m0 in r) ≡ Ok m = sym (write-nothing m0 to) ∙ wrote in
    let same : m0 ≡ m = cc in
    sym same ∙ sym (written-none m0 place.at place.region)
filled-is m0 m to (suc at) count b place is found free fits wrote =
    let some : 1 ≤ suc at = omega arith in
    let all : write_to m0 to (replicate (suc at) b) ≡ Ok (written_in m0 (replicate (suc at) b) place.at place.region) =
    write-at m0 to (suc at) (replicate (suc at) b) place some (length-replicate (suc at) b) (front m0 to count (suc at) place is found some fits) free in
    let same : (let r : Result Ranges AccessViolation = Ok (written_in m0 (replicate (suc at) b) place.at place.region) in r) ≡ Ok m = sym all ∙ wrote in
    sym (ok_is _ _ same)
  where
    ok_is : (x y : Ranges) → (let r : Result Ranges AccessViolation = Ok x in r) ≡ Ok y → x ≡ y
    ok_is x y h = cc

-- one piece more is filled
fill_at : (m0 m after : Ranges) (to at n count b : ℕ) (place : Place) (result : Result (Unit {0}) MemFault)
    → IsMemory m0 → place_of m0 to count ≡ Some place → Free place.region → IsPrepared m0 to count → 1 ≤ n
    → at + n ≤ count
    → write_to m0 to (replicate at b) ≡ Ok m
    → Answers (or_refusal (write_to m (to + at) (replicate n b))) m after result
    → (IsPrepared m (to + at) (length (replicate n b)) → HasMemory result)
    → write_to m0 to (replicate (at + n) b) ≡ Ok after
fill_at m0 m after to at n count b place result is found free prepared some fits wrote answer ready =
    let kept = write-kept m0 m to (replicate at b) wrote in
    let size : length (replicate n b) ≡ n = length-replicate n b in
    let place_it : place_of m (to + at) n ≡ Some (record { region = place.region; at = place.at + at }) = kept-place m0 m (to + at) n kept ∙ place-part m0 to count at n place is found some fits in
    let next : write_to m (to + at) (replicate n b) ≡ Ok (written_in m (replicate n b) (place.at + at) place.region) =
    write-at m (to + at) n (replicate n b) (record { region = place.region; at = place.at + at }) some size place_it free in
    let has : HasMemory result = ready (subst (IsPrepared m (to + at)) (sym size) (prepared-written m0 m (to + at) n kept (prepared-part m0 to count at n place is found some fits prepared))) in
    let ok : IsOk (write_to m (to + at) (replicate n b)) = rw next refl in
    let wrote_it : write_to m (to + at) (replicate n b) ≡ Ok after = done m after (write_to m (to + at) (replicate n b)) result ok has answer in
    let last : written_in m (replicate n b) (place.at + at) place.region ≡ after = ok_is _ _ (sym next ∙ wrote_it) in
    let so_far : m ≡ written_in m0 (replicate at b) place.at place.region = filled-is m0 m to at count b place is found free (omega arith) wrote in
    let long : length (replicate at b) ≡ at = length-replicate at b in
    let stands = stands-from_place m0 to count place (omega arith) found in
    let room : place.at + count ≤ length (range_bytes m0 place.region) = room-fits m0 count place.at place.region is.stack stands.room in
    let both : written_in (written_in m0 (replicate at b) place.at place.region) (replicate n b) (place.at + at) place.region ≡ written_in m0 (replicate (at + n) b) place.at place.region =
    ap (λ (p : ℕ). written_in (written_in m0 (replicate at b) place.at place.region) (replicate n b) (place.at + p) place.region) (sym long)
    ∙ written-more m0 (replicate at b) (replicate n b) place.at place.region (omega (arith, long, size, room))
    ∙ ap (λ (l : List ℕ). written_in m0 l place.at place.region) (replicate-append-replicate at n b) in
    let all : 1 ≤ at + n = omega arith in
    write-at m0 to (at + n) (replicate (at + n) b) place all (length-replicate (at + n) b) (front m0 to count (at + n) place is found all fits) free
    ∙ ap Ok (sym both ∙ ap (λ (x : Ranges). written_in x (replicate n b) (place.at + at) place.region) (sym so_far) ∙ last)
  where
    ok_is : (x y : Ranges) → (let r : Result Ranges AccessViolation = Ok x in r) ≡ Ok y → x ≡ y
    ok_is x y h = cc

pub fill-more : (m0 m after : Ranges) (to at n count b : ℕ) (result : Result (Unit {0}) MemFault) → IsMemory m0 → write_refusal m0 to count ≡ None → IsPrepared m0 to count → 1 ≤ n → at + n ≤ count
    → write_to m0 to (replicate at b) ≡ Ok m
    → Answers (or_refusal (write_to m (to + at) (replicate n b))) m after result
    → (IsPrepared m (to + at) (length (replicate n b)) → HasMemory result)
    → write_to m0 to (replicate (at + n) b) ≡ Ok after
fill-more m0 m after to at n count b result is free prepared some fits wrote answer ready =
    let t = target m0 to count (omega arith) free in
    fill_at m0 m after to at n count b t.0 result is t.1 t.2 prepared some fits wrote answer ready

-- the addresses of a range that is written are small
pub fill-low : (m : Ranges) (to count : ℕ) → IsMemory m → 1 ≤ count → write_refusal m to count ≡ None → to + count < 2 ^ 35
fill-low m to count is some free = let t = target m to count some free in place-low m to count t.0 is some t.1

-- a range is filled that was made ready for
pub fill-done : (m0 m1 m2 : Ranges) (to : ℕ) (bytes : List ℕ) → KeepsBytes m0 m1 → write_to m1 to bytes ≡ Ok m2 → bytes_written (plain_memory m0) to bytes ≡ Ok (plain_memory m2)
fill-done m0 m1 m2 to bytes kept wrote =
    rw (← plain-kept m0 m1 kept, write-plain m1 to bytes, wrote) refl

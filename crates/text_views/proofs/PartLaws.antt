-- The parts of an output are a record and a snapshot, and what is both has these parts.
use Rattle.std.proofs.Common.{◌≡◌, ◌-◌, ℕ, nat_eq, Bool, true, false, List, [], ◌∷◌, ◌++◌, length, take, drop, Result, Ok, Err, refl, sym, subst, arith}
use Rattle.std.specs.Prelude.{if◌then◌else◌}
use Rattle.std.proofs.lemmas.Bool.Decides.{nat_tests}
use Rattle.std.proofs.Math.Seq.{take-append_seam}
use Rattle.std.proofs.lemmas.List.{length-append, take-append-drop}
use Rattle.spec_base.specs.Bytes.{IsBytes}
use Rattle.spec_base.proofs.Binding.{after_bytes}
use Rattle.snapshot_codec.specs.declared.snapshot.Prefix.{Prefix}
use Rattle.snapshot_codec.specs.declared.fault.SnapshotFault.{SnapshotFault}
use Rattle.snapshot_codec.specs.SnapshotReading.{prefix_of}
use Rattle.snapshot_codec.proofs.SnapshotLaws.{prefix_takes, prefix_again}
use Rattle.block_record.specs.declared.block.Front.{Front}
use Rattle.block_record.specs.declared.fault.RecordFault.{RecordFault}
use Rattle.block_record.specs.Record.{IsRecord}
use Rattle.block_record.specs.RecordReading.{front_of}
use Rattle.block_record.proofs.RecordLaws.{front_takes, front_again}
use Rattle.text_views.specs.declared.output.Split.TheVariants.{Parts, Trailing}
use Rattle.text_views.specs.Parts.{parts_at, parts_behind, parts_by, parts_of, IsOfBlock, IsOfSnapshot, PartsAreRead, PartsAreFound}

by_test : (at left n : ℕ) (b : Bool) → (b ≡ true → left ≡ 0) → (if b then Parts at else Trailing left) ≡ Parts n → (at ≡ n) × (left ≡ 0)
by_test at left n true is h = (cc, is refl)
by_test at left n false is h = absurd (cc)

at_found : (at left n : ℕ) → parts_at at left ≡ Parts n → (at ≡ n) × (left ≡ 0)
at_found at left n h = by_test at left n (nat_eq left 0) (λ e. grind (arith, nat_tests)) h

behind_found : (rest : List ℕ) (at n : ℕ) (r : Result Prefix SnapshotFault) → IsBytes rest → prefix_of rest ≡ r → parts_behind at rest r ≡ Parts n → (at ≡ n) × IsOfSnapshot rest
behind_found rest at n (Ok prefix) are e h =
    let t = at_found at (length rest - prefix.length) n h in
    let begins = prefix_takes rest prefix are e in
    let none = t.1 in
    let within = begins.within in
    (t.0, (prefix, begins, omega arith))
behind_found rest at n (Err fault) are e h = absurd (cc)

by_found : (bytes : List ℕ) (n : ℕ) (r : Result Front RecordFault) → IsBytes bytes → front_of bytes ≡ r → parts_by bytes r ≡ Parts n → IsOfBlock (take n bytes) × IsOfSnapshot (drop n bytes)
by_found bytes n (Ok front) are e h =
    let begins = front_takes bytes front are e in
    let rest = drop front.length bytes in
    let rest_are : IsBytes rest = after_bytes bytes (take front.length bytes) rest are (sym (take-append-drop front.length bytes)) in
    let t = behind_found rest front.length n (prefix_of rest) rest_are refl h in
    subst (λ (m : ℕ). IsOfBlock (take m bytes) × IsOfSnapshot (drop m bytes)) t.0 ((front.block, begins.is), t.1)
by_found bytes n (Err fault) are e h = absurd (cc)

pub parts_are_read : PartsAreRead
unfolding parts_of
parts_are_read bytes n are h = by_found bytes n (front_of bytes) are refl h

drop_seam : (front back : List ℕ) → drop (length front) (front ++ back) ≡ back
drop_seam [] back = refl
drop_seam (x ∷ front) back = drop_seam front back

none_left : (at left : ℕ) → left ≡ 0 → parts_at at left ≡ Parts at
none_left at left e = rw e refl

behind_again : (at : ℕ) (back rest : List ℕ) → rest ≡ back → IsOfSnapshot back → parts_behind at rest (prefix_of rest) ≡ Parts at
behind_again at back rest e (prefix, begins, all) =
    rw (e, prefix_again back prefix begins) (none_left at (length back - prefix.length) (omega (arith, all)))

pub parts_are_found : PartsAreFound
unfolding parts_of
parts_are_found front back (block, is) snapshot =
    let begun : Front = record { block = block; length = length front } in
    let read : front_of (front ++ back) ≡ Ok begun = front_again (front ++ back) begun (record {
      within = omega (arith, length-append front back);
      is = subst (λ (l : List ℕ). IsRecord l block) (sym (take-append_seam front back)) is;
    }) in
    rw read (behind_again (length front) back (drop (length front) (front ++ back)) (drop_seam front back) snapshot)

-- What is listed of an image assembles to it again.
use Rattle.std.proofs.Common.{◌≡◌, ◌≤◌, ◌+◌, ◌*◌, ◌/◌, ◌%◌, ◌-◌, ℕ, ◌==◌, ◌||◌, not, Bool, false, List, [], ◌++◌, length, Option, Some, None, Result, Ok, Err, refl, sym, ap, subst, ◌∙◌, arith}
use Rattle.std.specs.Prelude.{nat_lt, if◌then◌else◌}
use Rattle.std.specs.List.{flat_map, range_with_len}
use Rattle.std.proofs.lemmas.Bool.Decides.{nat_tests}
use Rattle.std.proofs.lemmas.List.{take_all}
use Rattle.spec_base.specs.Bytes.{IsBytes}
use Rattle.spec_base.specs.Reading.{◌>>=◌}
use Rattle.spec_base.proofs.Binding.{ok_same, part_bytes}
use Rattle.sol_base.specs.Accounts.{max_data_len}
use Rattle.sbpf_verify.specs.Images.{ImageParts, image_bytes, image_in, slots_named, constants_named}
use Rattle.sbpf_verify.specs.Places.{slot_count, max_slots}
use Rattle.sbpf_verify.specs.Verified.{IsVerified, unfit}
use Rattle.sbpf_verify.specs.declared.fault.VerifyFault.{VerifyFault}
use Rattle.sbpf_verify.proofs.ImageLaws.{parts_of_image, parts_within, written}
use Rattle.sbpf_verify.proofs.Refusals.{verified_from_none}
use Rattle.sbpf_verify.proofs.Starts.{first_start, slots_there, start_there}
use Rattle.sbpf_asm.specs.declared.fault.AsmFault.{AsmFault}
use Rattle.sbpf_asm.specs.declared.fault.AsmFault.TheVariants.{TooLong}
use Rattle.sbpf_asm.specs.Words.{Text}
use Rattle.sbpf_asm.specs.Lines.{lines_of}
use Rattle.sbpf_asm.specs.Assembly.{Source, empty, is_too_long, slots_after, verified_image, if_fit, image_of, with_lines, assembled, Assembled}
use Rattle.sbpf_asm.specs.Listing.{Listed, listed, listed_parts, listing_if_fit, listing, slot_line, constant_lines}
use Rattle.sbpf_asm.proofs.ListedWalk.{Holds, walked}
use Rattle.sbpf_asm.proofs.ListedConstants.{Read, read}

text_bytes : (bytes : List ℕ) (image : ImageParts) → IsBytes bytes → image_in bytes ≡ Some image → IsBytes image.text
text_bytes bytes image are h = subst (λ (p : ImageParts). IsBytes p.text) (parts_of_image bytes image h) (part_bytes (8 * slots_named bytes) 16 bytes are)

constant_bytes : (bytes : List ℕ) (image : ImageParts) → IsBytes bytes → image_in bytes ≡ Some image → IsBytes image.constants
constant_bytes bytes image are h = subst (λ (p : ImageParts). IsBytes p.constants) (parts_of_image bytes image h) (part_bytes (constants_named bytes) (16 + 8 * slots_named bytes) bytes are)

-- the lines of the image are read as its slots and its constants
all_read : (image : ImageParts) → IsVerified image.text → IsBytes image.text → IsBytes image.constants → Read image.text (slot_count image.text) 1 image.constants empty (listing image)
all_read image v text constants =
    let w = walked image.text (constant_lines image.constants) v text (slot_count image.text) 0 1 empty
    (omega arith) (omega arith) (λ l. (start_there image.text 0 (first_start image.text v)).1)
    (record { slots = refl; constants = refl; settles = refl }) in
    let r = read image.text image.constants (slot_count image.text) constants ((length image.constants + 31) / 32) 0 w.number w.source (omega arith) w.holds in
    let slots : slot_count image.text ≡ slot_count image.text - 0 = omega arith in
    record {
      source = r.source;
      holds = r.holds;
      same = ap (λ (n : ℕ). with_lines 1 empty (lines_of (flat_map (slot_line image.text) (range_with_len 0 n) ++ constant_lines image.constants))) slots
          ∙ w.same
          ∙ r.same;
    }

whole_slots : (n : ℕ) → ((n == 0) || not (n % 8 == 0) || nat_lt max_slots (n / 8)) ≡ false → n ≤ 8 * (n / 8)
whole_slots n h = let m : n % 8 ≡ 0 = grind (arith, nat_tests) in omega arith

within : (n m : ℕ) → n ≤ max_slots → 16 + 8 * n + m ≤ max_data_len → (nat_lt max_slots n || nat_lt max_data_len (16 + 8 * n + m)) ≡ false
within n m h k = grind (arith, nat_tests)

-- the image of what has been read
image_again : (image : ImageParts) (s : Source) → IsVerified image.text → unfit image.text ≡ None
    → 16 + 8 * slot_count image.text + length image.constants ≤ max_data_len
    → Holds image.text (slot_count image.text) image.constants s
    → image_of s ≡ Ok (image_bytes image)
image_again image s v fit few h =
    let short : is_too_long s ≡ false = ap (λ (n : ℕ). nat_lt max_slots n || nat_lt max_data_len (16 + 8 * n + length s.constants)) h.slots
    ∙ ap (λ (c : List ℕ). nat_lt max_slots (slot_count image.text) || nat_lt max_data_len (16 + 8 * slot_count image.text + length c)) h.constants
    ∙ within (slot_count image.text) (length image.constants) (slots_there image.text v).1 few in
    let text : slots_after s.labels [] s.instructions ≡ Ok image.text = h.settles
    ∙ ap (λ (t : List ℕ). Ok t) (take_all (8 * slot_count image.text) image.text
    (whole_slots (length image.text) v.len)) in
    ap (λ (b : Bool). if b then Err TooLong else slots_after s.labels [] s.instructions >>= (λ t. verified_image t s.constants)) short
    ∙ ap (λ (r : Result (List ℕ) AsmFault). r >>= (λ t. verified_image t s.constants)) text
    ∙ ap (verified_image image.text) h.constants
    ∙ ap (λ (o : Option VerifyFault). if_fit o (image_bytes image)) fit

listing_again : (bytes : List ℕ) (image : ImageParts) → IsBytes bytes → length bytes ≤ max_data_len → image_in bytes ≡ Some image → unfit image.text ≡ None → Assembled (listing image) bytes
unfolding assembled
listing_again bytes image are few h fit =
    let v = verified_from_none image.text fit in
    let r = all_read image v (text_bytes bytes image are h) (constant_bytes bytes image are h) in
    let whole = whole_slots (length image.text) v.len in
    ap (λ (s : Result Source AsmFault). s >>= image_of) r.same
    ∙ image_again image r.source v fit (omega (arith, parts_within bytes image h)) r.holds
    ∙ ap (λ (b : List ℕ). Ok b) (sym (written bytes image h))

-- what is listed assembles again
pub listed_again : (bytes text : List ℕ) → IsBytes bytes → length bytes ≤ max_data_len → Listed bytes text → Assembled text bytes
unfolding listed
listed_again bytes text are few h = by_image (image_in bytes) refl h
  where
    by_fault : (image : ImageParts) → image_in bytes ≡ Some image → (o : Option VerifyFault) → unfit image.text ≡ o → listing_if_fit o image ≡ Ok text → Assembled text bytes
    by_fault image e None fit l = subst (λ (t : Text). Assembled t bytes) (ok_same (listing image) text l) (listing_again bytes image are few e fit)
    by_fault image e (Some fault) fit l = absurd (cc)

    by_image : (o : Option ImageParts) → image_in bytes ≡ o → listed_parts o ≡ Ok text → Assembled text bytes
    by_image None e l = absurd (cc)
    by_image (Some image) e l = by_fault image e (unfit image.text) refl l

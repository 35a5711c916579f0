-- The lines of the instructions of a verified text, read one after another.
use Rattle.std.proofs.Common.{◌≡◌, ◌≢◌, ◌⊎◌, inl, inr, ◌<◌, ◌≤◌, ◌+◌, ◌*◌, ◌/◌, ◌-◌, ℕ, zero, suc, ◌==◌, ◌&&◌, not, Bool, true, false, List, [], ◌∷◌, ◌++◌, take, length, Option, Some, None, is_none, Result, Ok, refl, sym, ap, subst, ◌∙◌, arith, append_assoc, length-append, codes}
use Rattle.std.specs.Prelude.{pos, nat_lt, if◌then◌else◌}
use Rattle.std.specs.List.{flat_map, range_with_len}
use Rattle.std.proofs.lemmas.Bool.{and_parts, eqb-true, ne_eqb, not-false}
use Rattle.std.proofs.lemmas.Bool.Decides.{nat_tests, Decides-int_eq}
use Rattle.spec_base.specs.Bytes.{IsBytes}
use Rattle.spec_base.specs.Reading.{◌>>=◌}
use Rattle.spec_base.proofs.Binding.{bind_ok, ok_same}
use Rattle.sbpf_isa.specs.Rows.{kind_at}
use Rattle.sbpf_isa.specs.Slots.{slot_of}
use Rattle.sbpf_isa.specs.declared.rows.OpKind.{OpKind}
use Rattle.sbpf_isa.specs.declared.rows.OpKind.TheVariants.{LoadWide}
use Rattle.sbpf_verify.specs.Places.{slot_count, is_start, instruction_at}
use Rattle.sbpf_verify.specs.Verified.{IsVerified, follows_wide, is_second_half, slot_rows}
use Rattle.sbpf_verify.proofs.Starts.{follows_one, instruction_there, no_row_applies, not_wide, start_instruction}
use Rattle.sbpf_asm.specs.declared.fault.AsmFault.{AsmFault}
use Rattle.sbpf_asm.specs.declared.instruction.Instruction.{Instruction}
use Rattle.sbpf_asm.specs.Words.{Text, is_line_feed}
use Rattle.sbpf_asm.specs.Rows.{Draft, is_wide}
use Rattle.sbpf_asm.specs.Lines.{lines_of}
use Rattle.sbpf_asm.specs.Assembly.{Placed, Label, Source, is_in_range, is_text, is_text_byte, slots_taken, slots_after, linked, instruction_bytes, with_draft, with_line, with_lines}
use Rattle.sbpf_asm.specs.Listing.{instruction_of, instruction_text, line_of, slot_line}
use Rattle.sbpf_asm.proofs.Pieces.{cut_here}
use Rattle.sbpf_asm.proofs.Clean.{weaker}
use Rattle.sbpf_asm.proofs.Sources.{line_cut, lines_on}
use Rattle.sbpf_asm.proofs.ListedInstructions.{Reads}
use Rattle.sbpf_asm.proofs.ListedSlots.{eight, eight_more, one_back, two_back, IsSecond}
use Rattle.sbpf_asm.proofs.ListedTexts.{in_range, reads}

-- ---- from an instruction to the next

-- the lines of the slots from a place on
abbrev pub lines_from : List ℕ → ℕ → Text
lines_from text p = flat_map (slot_line text) (range_with_len p (slot_count text - p))

-- what comes after an instruction
record Next (text : List ℕ) (p : ℕ) (k : OpKind) : Type 0 where
  place : ℕ
  later : p < place
  within : place ≤ slot_count text
  starts : place < slot_count text → ((slot_of text place).opcode == 0) ≡ false
  lines : lines_from text p ≡ (instruction_text (instruction_of text p k) ++ codes "\n") ++ lines_from text place
  taken : p + slots_taken (instruction_of text p k) ≡ place
  bytes : take (8 * place) text ≡ take (8 * p) text ++ instruction_bytes (instruction_of text p k)

opcode_there : (o : ℕ) (f : Bool) → (is_none (kind_at o) && not ((o == 0) && f)) ≡ false → f ≡ false → (o == 0) ≡ false
unfolding kind_at
opcode_there o f h e = ne_eqb o 0 (λ (z : o ≡ 0). let k = rw (z, e) at h in cc)

-- the slot after one that is not `lddw`
next_opcode : (text : List ℕ) (p : ℕ) → IsVerified text → ((slot_of text p).opcode == 0x18) ≡ false → p + 1 < slot_count text → ((slot_of text (p + 1)).opcode == 0) ≡ false
unfolding slot_rows
next_opcode text p v h l = opcode_there (slot_of text (p + 1)).opcode (follows_wide text (p + 1)) (v.slots (p + 1) l).0 (follows_one text p h)

line_one : (text : List ℕ) (p : ℕ) → p < slot_count text → lines_from text p ≡ slot_line text p ++ lines_from text (p + 1)
line_one text p l = let e : slot_count text - p ≡ suc (slot_count text - (p + 1)) = omega arith in ap (λ (k : ℕ). flat_map (slot_line text) (range_with_len p k)) e

-- the line of a slot by what its opcode leads to
line_there : (text : List ℕ) (p : ℕ) (rest : Text) (kind : Option OpKind) → kind_at (slot_of text p).opcode ≡ kind → slot_line text p ++ rest ≡ line_of text p kind ++ rest
line_there text p rest kind e = ap (λ (k : Option OpKind). line_of text p k ++ rest) e

slot_within : (n p : ℕ) → p < n / 8 → 8 * p + 8 ≤ n
slot_within n p h = omega arith

next_one : (text : List ℕ) (p : ℕ) (k : OpKind) → IsVerified text → IsBytes text → p < slot_count text → kind_at (slot_of text p).opcode ≡ Some k → k ≢ LoadWide → Next text p k
next_one text p k v are l is other =
    let narrow = not_wide_kind k other in record {
      place = p + 1;
      later = omega arith;
      within = omega arith;
      starts = next_opcode text p v (not_wide (slot_of text p).opcode k is other);
      lines = line_one text p l ∙ line_there text p (lines_from text (p + 1)) (Some k) is;
      taken = ap (λ (b : Bool). p + (if b then 2 else 1)) narrow;
      bytes = eight_more text p (slot_within (length text) p l) ∙ ap (λ (bytes : List ℕ). take (8 * p) text ++ bytes) (sym (one_back text p k are is narrow));
    }
  where
    not_wide_kind : (k : OpKind) → k ≢ LoadWide → is_wide k ≡ false
    not_wide_kind LoadWide n = absurd (n refl)
    not_wide_kind k n = refl

-- the second slot of `lddw`
second_there : (text : List ℕ) (p : ℕ) → is_second_half text p ≡ true → (p < slot_count text) × IsSecond text p
second_there text p h =
    let offset = and_parts _ _ h in
    let src = and_parts _ _ offset.0 in
    let dst = and_parts _ _ src.0 in
    let opcode = and_parts _ _ dst.0 in
    let there : nat_lt p (slot_count text) ≡ true = opcode.0 in
    let slot = slot_of text p in (
      grind (arith, nat_tests),
      record {
        opcode = eqb-true slot.opcode 0 opcode.1;
        dst = eqb-true slot.dst 0 dst.1;
        src = eqb-true slot.src 0 src.1;
        offset = (Decides-int_eq slot.offset (pos 0)).0 offset.1;
      },
    )

no_row_of_zero : (o : ℕ) → o ≡ 0 → kind_at o ≡ None
unfolding kind_at
no_row_of_zero o e = rw e refl

next_wide : (text : List ℕ) (p : ℕ) → IsVerified text → IsBytes text → p < slot_count text
    → kind_at (slot_of text p).opcode ≡ Some LoadWide → (p + 1 < slot_count text) × IsSecond text (p + 1)
    → Next text p LoadWide
next_wide text p v are l is half =
    let narrow : ((slot_of text (p + 1)).opcode == 0x18) ≡ false = ap (λ (o : ℕ). o == 0x18) half.1.opcode in
    let line : Text = instruction_text (instruction_of text p LoadWide) ++ codes "\n" in
    record {
      place = p + 1 + 1;
      later = omega arith;
      within = omega (arith, half.0);
      starts = next_opcode text (p + 1) v narrow;
      lines = line_one text p l ∙ line_there text p (lines_from text (p + 1)) (Some LoadWide) is
          ∙ ap (λ (rest : Text). line ++ rest) (line_one text (p + 1) half.0 ∙ line_there text (p + 1) (lines_from text (p + 1 + 1)) None (no_row_of_zero (slot_of text (p + 1)).opcode half.1.opcode));
      taken = two_on p;
      bytes = eight_more text (p + 1) (slot_within (length text) (p + 1) half.0)
          ∙ ap (λ (front : List ℕ). front ++ eight text (p + 1)) (eight_more text p (slot_within (length text) p l))
          ∙ append_assoc (take (8 * p) text) (eight text p) (eight text (p + 1))
          ∙ ap (λ (bytes : List ℕ). take (8 * p) text ++ bytes) (sym (two_back text p are is half.1));
    }
  where
    two_on : (p : ℕ) → p + 2 ≡ p + 1 + 1
    two_on p = omega arith

is_load_wide : (k : OpKind) → (k ≡ LoadWide) ⊎ (k ≢ LoadWide)
is_load_wide LoadWide = inl refl
is_load_wide k = inr (λ e. cc)

next : (text : List ℕ) (p : ℕ) (k : OpKind) → IsVerified text → IsBytes text → instruction_at text p ≡ Some k → Next text p k
next text p k v are h = go (is_load_wide k)
  where
    there : (p < slot_count text) × (kind_at (slot_of text p).opcode ≡ Some k)
    there = instruction_there text p k h

    go : (k ≡ LoadWide) ⊎ (k ≢ LoadWide) → Next text p k
    go (inl wide) =
        let is : instruction_at text p ≡ Some LoadWide = h ∙ ap (λ (kind : OpKind). Some kind) wide in
        let kind : kind_at (slot_of text p).opcode ≡ Some LoadWide = there.1 ∙ ap (λ (kind : OpKind). Some kind) wide in
        subst (Next text p) (sym wide) (next_wide text p v are there.0 kind (second_there text (p + 1) (not-false (is_second_half text (p + 1)) (no_row_applies text p LoadWide v is).0)))
    go (inr other) = next_one text p k v are there.0 there.1 other

-- ---- what has been read

-- the source has the slots before a place, and these constants
pub record Holds (text : List ℕ) (p : ℕ) (bytes : List ℕ) (s : Source) : Type 0 where
  pub slots : s.slots ≡ p
  pub constants : s.constants ≡ bytes
  pub settles : slots_after s.labels [] s.instructions ≡ Ok (take (8 * p) text)

-- an instruction as it is listed
abbrev listed_draft : Instruction → Draft
listed_draft i = record { instruction = i; target = None }

slots_push : (labels : List Label) (before : List ℕ) (ps : List Placed) (line place : ℕ) (i : Instruction) (bytes : List ℕ) → slots_after labels before ps ≡ Ok bytes
    → slots_after labels before (ps ++ (record { line = line; place = place; draft = listed_draft i }) ∷ []) ≡ Ok (bytes ++ instruction_bytes i)
slots_push labels before [] line place i bytes h = ap (λ (b : List ℕ). Ok (b ++ instruction_bytes i)) (ok_same before bytes h)
slots_push labels before (p ∷ ps) line place i bytes h =
    let bound = bind_ok (linked labels p p.draft.target) (λ j. slots_after labels (before ++ instruction_bytes j) ps) bytes h in
    ap (λ (r : Result Instruction AsmFault). r >>= (λ j. slots_after labels (before ++ instruction_bytes j) (ps ++ (record { line = line; place = place; draft = listed_draft i }) ∷ []))) bound.1
    ∙ slots_push labels (before ++ instruction_bytes bound.0) ps line place i bytes bound.2

one_line : (n : ℕ) (s : Source) (line : Text) (i : Instruction) → Reads line i → is_in_range i ≡ true → with_line n s line ≡ Ok (with_draft n s (listed_draft i))
one_line n s line i r fits = rw (r.text, r.item, fits) refl

holds_more : (text : List ℕ) (p n : ℕ) (bytes : List ℕ) (s : Source) → Holds text p bytes s → (k : OpKind)
    → (x : Next text p k) → Holds text x.place bytes (with_draft n s (listed_draft (instruction_of text p k)))
holds_more text p n bytes s h k x = record {
  slots = ap (λ (m : ℕ). m + slots_taken (instruction_of text p k)) h.slots ∙ x.taken;
  constants = h.constants;
  settles = slots_push s.labels [] s.instructions n s.slots (instruction_of text p k) (take (8 * p) text) h.settles ∙ ap (λ (b : List ℕ). Ok b) (sym x.bytes);
}

-- ---- lines

no_feed : (c : ℕ) → is_text_byte c ≡ true → not (is_line_feed c) ≡ true
no_feed c h = grind (arith, nat_tests)

-- the first line of a text
pub line_first : (line rest : Text) → is_text line ≡ true → lines_of ((line ++ codes "\n") ++ rest) ≡ line ∷ lines_of rest
line_first line rest h =
    ap lines_of (append_assoc line (codes "\n") rest)
    ∙ line_cut (line ++ 10 ∷ rest) (omega (arith, length-append line (10 ∷ rest)))
    ∙ rw (cut_here is_line_feed line 10 rest (weaker is_text_byte (λ b. not (is_line_feed b)) no_feed line h) refl) refl

-- lines that have been read, with what is left
pub record Walked (text : List ℕ) (n : ℕ) (s : Source) (lines tail : Text) : Type 0 where
  pub number : ℕ
  pub source : Source
  pub holds : Holds text (slot_count text) [] source
  pub same : with_lines n s (lines_of (lines ++ tail)) ≡ with_lines number source (lines_of tail)

at_end : (text tail : List ℕ) (p n : ℕ) (s : Source) → p ≡ slot_count text → Holds text p [] s → Walked text n s (lines_from text p) tail
at_end text tail p n s e h =
    let none : slot_count text - p ≡ 0 = omega arith in
    record {
      number = n;
      source = s;
      holds = subst (λ (q : ℕ). Holds text q [] s) e h;
      same = ap (λ (k : ℕ). with_lines n s (lines_of (flat_map (slot_line text) (range_with_len p k) ++ tail))) none;
    }

on : (text tail : List ℕ) (p n : ℕ) (s : Source) (k : OpKind) → IsVerified text → IsBytes text → instruction_at text p ≡ Some k → (x : Next text p k)
    → Walked text (n + 1) (with_draft n s (listed_draft (instruction_of text p k))) (lines_from text x.place) tail → Walked text n s (lines_from text p) tail
on text tail p n s k v are h x w =
    let i = instruction_of text p k in
    let line = instruction_text i in
    let r = reads text p k v are h in
    let after = lines_from text x.place ++ tail in
    let cut : lines_of (lines_from text p ++ tail) ≡ line ∷ lines_of after =
    ap (λ (t : Text). lines_of (t ++ tail)) x.lines ∙ ap lines_of (append_assoc (line ++ codes "\n") (lines_from text x.place) tail) ∙ line_first line after r.text in
    record {
      number = w.number;
      source = w.source;
      holds = w.holds;
      same = lines_on n s (with_draft n s (listed_draft i)) (lines_from text p ++ tail) after line cut (one_line n s line i r (in_range text p k are)) ∙ w.same;
    }

start_at : (text : List ℕ) (p : ℕ) → p < slot_count text → ((slot_of text p).opcode == 0) ≡ false → is_start text p ≡ true
unfolding is_start
start_at text p l z = let t : nat_lt p (slot_count text) ≡ true = grind (arith, nat_tests) in rw (t, z) refl

-- the lines of the instructions are read as the slots
pub walked : (text tail : List ℕ) → IsVerified text → IsBytes text → (fuel p n : ℕ) (s : Source) → slot_count text ≤ p + fuel → p ≤ slot_count text
    → (p < slot_count text → ((slot_of text p).opcode == 0) ≡ false) → Holds text p [] s → Walked text n s (lines_from text p) tail
walked text tail v are zero p n s few within starts h = at_end text tail p n s (omega arith) h
walked text tail v are (suc fuel) p n s few within starts h = go (walked text tail v are fuel) (nat_lt p (slot_count text)) refl
  where
    go : ((q m : ℕ) (t : Source) → slot_count text ≤ q + fuel → q ≤ slot_count text
        → (q < slot_count text → ((slot_of text q).opcode == 0) ≡ false) → Holds text q [] t
        → Walked text m t (lines_from text q) tail)
        → (b : Bool) → nat_lt p (slot_count text) ≡ b → Walked text n s (lines_from text p) tail
    go rest true e =
        let l : p < slot_count text = grind (arith, nat_tests) in
        let kind = start_instruction text p v (start_at text p l (starts l)) in
        let x = next text p kind.0 v are kind.1 in
        let later = x.later in
        on text tail p n s kind.0 v are kind.1 x
        (rest x.place (n + 1) (with_draft n s (listed_draft (instruction_of text p kind.0))) (omega arith)
        x.within x.starts (holds_more text p n [] s h kind.0 x))
    go rest false e = let l : slot_count text ≤ p = grind (arith, nat_tests) in at_end text tail p n s (omega arith) h

-- Operands that are written are read again.
use Rattle.std.proofs.Common.{◌≡◌, ◌<◌, ◌≤◌, ◌^◌, ◌-◌, ℕ, suc, ◌==◌, ◌&&◌, not, Bool, true, false, cond, List, [], ◌∷◌, ◌++◌, length, Some, None, refl, sym, ap, ap₂, ◌∙◌, map, arith, drop, append_assoc}
use Rattle.std.specs.Prelude.{ℤ, pos, negsuc, fold, if◌then◌else◌, slice_index, slice_range, nat_eq, unsigned_abs}
use Rattle.std.specs.List.{list_all, AllByRecursion}
use lib.Pointwise.{pointwise}
use Rattle.std.specs.Char.{is_ascii_digit}
use Rattle.std.specs.Fmt.{decimal, signed_decimal}
use Rattle.std.proofs.lemmas.Bool.{and_parts, lt-ltb}
use Rattle.std.proofs.lemmas.Bool.Decides.{nat_tests}
use Rattle.std.proofs.lemmas.List.{take_at, drop_at, length_push}
use Rattle.sbpf_asm.specs.declared.instruction.Instruction.{Instruction}
use Rattle.sbpf_asm.specs.declared.row.Operand.{Operand}
use Rattle.sbpf_asm.specs.declared.row.Operand.TheVariants.{Destination, Source, RegisterOrNumber, Number, JumpTarget, DestinationPlace, SourcePlace, RegisterNumber}
use Rattle.sbpf_asm.specs.Words.{Text, cut, is_sign, positive, negative, ends_with}
use Rattle.sbpf_asm.specs.Operands.{offset, register_of, register_text, target_of, signed_text, place_of, place_text, place_within, place_by}
use Rattle.sbpf_asm.specs.Rows.{Draft, with_instruction, with_operand, with_operands, operand_text, distance, leading, is_call, takes_register, with_register}
use Rattle.sbpf_asm.proofs.Pieces.{cut_here}
use Rattle.sbpf_asm.proofs.Numbers.{IsNumber, decimal_number, unsigned_back, number_back, register_back, Fits64}
use Rattle.sbpf_asm.proofs.Clean.{Clean, weaker, clean_register, clean_number, clean_signed, clean_place}

-- ---- numbers are no registers

digit_no_r : (c : ℕ) → is_ascii_digit c ≡ true → (c == 114) ≡ false
digit_no_r c h = grind (arith, nat_tests)

shut : (a c : Bool) → (a && false && c) ≡ false
shut true c = refl
shut false c = refl

no_register : (b : ℕ) (bs : Text) → (b == 114) ≡ false → register_of (b ∷ bs) ≡ None
no_register b bs h =
    let turned : (114 == b) ≡ false = grind (arith, nat_tests) in
    rw (h, turned, shut (length (b ∷ bs) == 2) (is_ascii_digit (slice_index (b ∷ bs) 1))) refl

no_register_number : (n : ℕ) (text : Text) → IsNumber n text → register_of text ≡ None
no_register_number n [] h = refl
no_register_number n (b ∷ bs) h = no_register b bs (digit_no_r b (and_parts (is_ascii_digit b) (list_all is_ascii_digit bs) h.all).0)

number_no_register : (z : ℤ) → Fits64 z → register_of (signed_decimal z) ≡ None
number_no_register (pos n) h = no_register_number n (decimal n) (decimal_number n h)
number_no_register (negsuc n) h = no_register 45 (decimal (suc n)) refl

-- ---- targets and places

target_back : (z : ℤ) → Fits64 z → target_of (signed_text z) ≡ Some (offset z)
target_back (pos n) h = rw (unsigned_back n (decimal n) (decimal_number n h)) refl
target_back (negsuc n) h = rw (unsigned_back (suc n) (decimal (suc n)) (decimal_number (suc n) (omega arith))) refl

not_sign : (c : ℕ) → is_ascii_digit c ≡ true → not (is_sign c) ≡ true
not_sign c h = grind (arith, nat_tests)

register_no_sign : (r : ℕ) → r < 2 ^ 64 → list_all (λ c. not (is_sign c)) (register_text r) ≡ true
register_no_sign r h = weaker is_ascii_digit (λ c. not (is_sign c)) not_sign (decimal r) (decimal_number r h).all

within_back : (r : ℕ) (z : ℤ) → r ≤ 10 → Fits64 z → place_within (cut is_sign (register_text r ++ signed_text z)) ≡ Some (record { register = r; offset = z })
within_back r (pos n) h k = ap place_within (cut_here is_sign (register_text r) 43 (decimal n) (register_no_sign r (omega arith)) refl)
    ∙ ap₂ place_by (register_back r h) (ap positive (unsigned_back n (decimal n) (decimal_number n k)))
within_back r (negsuc n) h k = ap place_within (cut_here is_sign (register_text r) 45 (decimal (suc n)) (register_no_sign r (omega arith)) refl)
    ∙ ap₂ place_by (register_back r h) (ap negative (unsigned_back (suc n) (decimal (suc n)) (decimal_number (suc n) (omega arith))))

-- the last byte of a text
last_byte : (xs : Text) (b : ℕ) → drop (length (xs ++ b ∷ []) - 1) (xs ++ b ∷ []) ≡ b ∷ []
last_byte xs b =
    let l = length_push xs b in
    let i : length (xs ++ b ∷ []) - 1 ≡ length xs = omega arith in
    rw i (drop_at xs (b ∷ []) (length xs) refl)

pub ends_push : (xs : Text) (b c : ℕ) → ends_with (xs ++ b ∷ []) (c ∷ []) ≡ ((c == b) && true)
ends_push xs b c = ap (λ (t : Text). pointwise nat_eq (c ∷ []) t) (last_byte xs b)

all_three : (a b c : Bool) → a ≡ true → b ≡ true → c ≡ true → (a && b && c) ≡ true
all_three a b c h k l = rw (h, k, l) refl

bracketed : (xs : Text) → slice_range (91 ∷ (xs ++ 93 ∷ [])) 1 (length (91 ∷ (xs ++ 93 ∷ [])) - 1) ≡ xs
bracketed xs =
    let l = length_push xs 93 in
    let i : length (91 ∷ (xs ++ 93 ∷ [])) - 1 - 1 ≡ length xs = omega arith in
    rw i (take_at xs (93 ∷ []) (length xs) refl)

bracket_back : (xs : Text) → place_of (91 ∷ (xs ++ 93 ∷ [])) ≡ place_within (cut is_sign xs)
bracket_back xs =
    let l = length_push xs 93 in
    let text = 91 ∷ (xs ++ 93 ∷ []) in
    let is = all_three _ _ _ (lt-ltb 1 (length text) (omega arith)) refl (ends_push (91 ∷ xs) 93 93) in
    ap (λ (x : Bool). cond x (place_within (cut is_sign (slice_range text 1 (length text - 1)))) None) is ∙ ap (λ (t : Text). place_within (cut is_sign t)) (bracketed xs)

place_back : (r : ℕ) (z : ℤ) → r ≤ 10 → Fits64 z → place_of (place_text r z) ≡ Some (record { register = r; offset = z })
place_back r z h k = ap (λ (t : Text). place_of (91 ∷ t)) (sym (append_assoc (register_text r) (signed_text z) (93 ∷ []))) ∙ bracket_back (register_text r ++ signed_text z) ∙ within_back r z h k

-- ---- the operands of an instruction

-- the fields are no wider than those that a text can write
pub record IsWide (i : Instruction) : Type 0 where
  pub dst : i.dst ≤ 10
  pub src : i.src ≤ 10
  pub offset : Fits64 i.offset
  pub imm : Fits64 i.imm

-- the immediate of `callx` is a register's number
abbrev pub IsNumbered : Instruction → Operand → Type 0
IsNumbered i RegisterNumber = (unsigned_abs i.imm ≤ 10) × (pos (unsigned_abs i.imm) ≡ i.imm)
IsNumbered i _ = Unit {0}

-- an instruction with the fields that the operand has in another
abbrev pub taken : Instruction → Instruction → Operand → Instruction
taken i d Destination = record d { dst = i.dst }
taken i d Source = record d { src = i.src }
taken i d RegisterOrNumber =
    if takes_register i.kind then record d { kind = with_register d.kind; src = i.src }
    else record d { imm = i.imm }
taken i d Number = record d { imm = i.imm }
taken i d JumpTarget = leading (distance i) d
taken i d DestinationPlace = record d { dst = i.dst; offset = i.offset }
taken i d SourcePlace = record d { src = i.src; offset = i.offset }
taken i d RegisterNumber = record d { imm = i.imm }

fits_either : (b : Bool) (x y : ℤ) → Fits64 x → Fits64 y → Fits64 (if b then x else y)
fits_either true x y h k = h
fits_either false x y h k = k

abs_fits : (z : ℤ) → Fits64 z → unsigned_abs z < 2 ^ 64
abs_fits (pos n) h = h
abs_fits (negsuc n) h = omega arith

operand_back : (i : Instruction) (d : Draft) (o : Operand) → IsWide i → IsNumbered i o → with_operand o (operand_text i o) d ≡ Some (with_instruction d (taken i d.instruction o))
operand_back i d Destination w n = rw (register_back i.dst w.dst) refl
operand_back i d Source w n = rw (register_back i.src w.src) refl
operand_back i d RegisterOrNumber w n = go (takes_register i.kind) refl
  where
    go : (b : Bool) → takes_register i.kind ≡ b → with_operand RegisterOrNumber (operand_text i RegisterOrNumber) d ≡ Some (with_instruction d (taken i d.instruction RegisterOrNumber))
    go true e = rw (e, register_back i.src w.src) refl
    go false e = rw (e, number_no_register i.imm w.imm, number_back i.imm w.imm) refl
operand_back i d Number w n = rw (number_back i.imm w.imm) refl
operand_back i d JumpTarget w n = rw (target_back (distance i) (fits_either (is_call i.kind) i.imm i.offset w.imm w.offset)) refl
operand_back i d DestinationPlace w n = rw (place_back i.dst i.offset w.dst w.offset) refl
operand_back i d SourcePlace w n = rw (place_back i.src i.offset w.src w.offset) refl
operand_back i d RegisterNumber w n = rw (register_back (unsigned_abs i.imm) n.0, n.1) refl

pub operand_clean : (i : Instruction) (o : Operand) → IsWide i → Clean (operand_text i o)
operand_clean i Destination w = clean_register i.dst (omega (arith, w.dst))
operand_clean i Source w = clean_register i.src (omega (arith, w.src))
operand_clean i RegisterOrNumber w = go (takes_register i.kind)
  where
    go : (b : Bool) → Clean (if b then register_text i.src else signed_decimal i.imm)
    go true = clean_register i.src (omega (arith, w.src))
    go false = clean_number i.imm w.imm
operand_clean i Number w = clean_number i.imm w.imm
operand_clean i JumpTarget w = clean_signed (distance i) (fits_either (is_call i.kind) i.imm i.offset w.imm w.offset)
operand_clean i DestinationPlace w = clean_place i.dst i.offset (omega (arith, w.dst)) w.offset
operand_clean i SourcePlace w = clean_place i.src i.offset (omega (arith, w.src)) w.offset
operand_clean i RegisterNumber w = clean_register (unsigned_abs i.imm) (abs_fits i.imm w.imm)

-- the operands of an instruction are read as its fields
pub operands_back : (i : Instruction) (d : Draft) (os : List Operand) → IsWide i
    → AllByRecursion (IsNumbered i) os
    → with_operands os (map (operand_text i) os) d ≡ Some (with_instruction d (fold (taken i) d.instruction os))
operands_back i d [] w n = refl
operands_back i d (o ∷ os) w n = rw (operand_back i d o w n.0) (operands_back i (with_instruction d (taken i d.instruction o)) os w n.1)

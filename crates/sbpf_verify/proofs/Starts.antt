-- What is known of the instructions of a verified text.
use Rattle.sbpf_isa.specs.Calls.{IsCallNumber, invoke_call}
use Rattle.std.proofs.Common.{◌≡◌, ◌≢◌, ◌<◌, ◌≤◌, ◌-◌, ◌+◌, ◌==◌, ◌&&◌, ◌||◌, not, ℕ, Bool, true, false, cond, List, length, Option, Some, None, refl, ap, ◌∙◌, sym, arith, add-one, ◌⊎◌, inl, inr, ⊎_elim, ◌%◌, ◌/◌}
use Rattle.std.specs.Prelude.{nat_lt, is_none, ℤ, pos, negsuc, ◌≤ℤ◌, int_lt, slice_get, unwrap_or}
use Rattle.std.proofs.lemmas.Bool.{or_parts, not-false, eq-eqb, ne_eqb, ltb-false}
use Rattle.std.proofs.lemmas.Bool.Decides.{nat_tests}
use Rattle.std.specs.Int.{w64, cast_unsigned}
use Rattle.std.specs.Ordering.{int_eq}
use Rattle.std.proofs.lemmas.Int.{ints}
use Rattle.sbpf_isa.specs.Fields.{used}
use Rattle.sbpf_isa.specs.Rows.{kind_at}
use Rattle.sbpf_isa.specs.Slots.{slot_of}
use Rattle.sbpf_isa.specs.declared.slot.Slot.{Slot}
use Rattle.sbpf_isa.specs.declared.rows.OpKind.{OpKind}
use Rattle.sbpf_isa.specs.declared.rows.OpKind.TheVariants.{Jump, Exit, LoadWide}
use Rattle.sbpf_verify.specs.declared.entry.Entry.{Entry}
use Rattle.sbpf_verify.specs.Opcodes.{meaning}
use Rattle.sbpf_verify.specs.Entries.{Decodes, IsDecoded, Fits, immediate_of}
use Rattle.sbpf_verify.specs.Instructions.{HasRegisters, HasValues}
use Rattle.sbpf_verify.specs.Places.{slot_count, max_slots, is_start, is_start_at, instruction_at, leads_to, goes_on, slots_taken, Reached, first, after, jumped, called}
use Rattle.sbpf_verify.specs.Verified.{rows_of, lacks_row, follows_wide, is_astray, is_outside, calls_bad_register, is_no_width, has_bad_value, has_stray_field, calls_no_helper, instruction_rows, slot_rows, NoneApplies, IsVerified}

within_from_test : (n k : ℕ) (x : Option OpKind) (kind : OpKind) → cond (nat_lt n k) x None ≡ Some kind → (n < k) × (x ≡ Some kind)
within_from_test n k x kind h = split (nat_lt n k) refl h
  where
    split : (b : Bool) → nat_lt n k ≡ b → cond b x None ≡ Some kind → (n < k) × (x ≡ Some kind)
    split true e g = (grind (arith, nat_tests), g)
    split false e g = absurd (cc)

-- an instruction is there, and its opcode has a row
pub instruction_there : (text : List ℕ) (place : ℕ) (kind : OpKind) → instruction_at text place ≡ Some kind → (place < slot_count text) × (kind_at (slot_of text place).opcode ≡ Some kind)
unfolding instruction_at
instruction_there text place kind h = within_from_test place (slot_count text) (kind_at (slot_of text place).opcode) kind h

pub there_instruction : (text : List ℕ) (place : ℕ) → place < slot_count text → instruction_at text place ≡ kind_at (slot_of text place).opcode
unfolding instruction_at
there_instruction text place l = let t : nat_lt place (slot_count text) ≡ true = grind (arith, nat_tests) in ap (λ (b : Bool). cond b (kind_at (slot_of text place).opcode) None) t

start_facts : (n k o : ℕ) → (nat_lt n k && not (o == 0)) ≡ true → (n < k) × ((o == 0) ≡ false)
start_facts n k o h = (grind (arith, nat_tests), grind (arith, nat_tests))

start_test : (n k o : ℕ) → n < k → o ≢ 0 → (nat_lt n k && not (o == 0)) ≡ true
start_test n k o l h = grind (arith, nat_tests)

-- a start is a slot that is there, and its opcode is not 0
pub start_there : (text : List ℕ) (place : ℕ) → is_start text place ≡ true → (place < slot_count text) × (((slot_of text place).opcode == 0) ≡ false)
unfolding is_start
start_there text place h = start_facts place (slot_count text) (slot_of text place).opcode h

make_start : (text : List ℕ) (place : ℕ) → place < slot_count text → (slot_of text place).opcode ≢ 0 → is_start text place ≡ true
unfolding is_start
make_start text place l h = start_test place (slot_count text) (slot_of text place).opcode l h

no_zero : (o : ℕ) (kind : OpKind) → kind_at o ≡ Some kind → o ≢ 0
unfolding kind_at
no_zero o kind h = λ (z : o ≡ 0). let e : kind_at 0 ≡ Some kind = ap kind_at (sym z) ∙ h in absurd (cc)

-- an instruction starts where it is
pub instruction_starts : (text : List ℕ) (place : ℕ) (kind : OpKind) → instruction_at text place ≡ Some kind → is_start text place ≡ true
instruction_starts text place kind h = let there : (place < slot_count text)
    × (kind_at (slot_of text place).opcode ≡ Some kind) = instruction_there text place kind h
    in make_start text place there.0 (no_zero (slot_of text place).opcode kind there.1)

rows_at : (text : List ℕ) (place : ℕ) → IsVerified text → place < slot_count text
    → (lacks_row text place ≡ false)
    × NoneApplies (rows_of text place (slot_of text place) (kind_at (slot_of text place).opcode))
unfolding slot_rows
rows_at text place v l = v.slots place l

-- no row of the table applies to an instruction of a verified text
pub no_row_applies : (text : List ℕ) (place : ℕ) (kind : OpKind) → IsVerified text → instruction_at text place ≡ Some kind → NoneApplies (instruction_rows text place (slot_of text place) kind)
no_row_applies text place kind v h =
    let there : (place < slot_count text) × (kind_at (slot_of text place).opcode ≡ Some kind) = instruction_there text place kind h in
    rw there.1 at (rows_at text place v there.0).1

some_row : (o : Option OpKind) (z f : Bool) → (is_none o && not (z && f)) ≡ false → z ≡ false → (kind : OpKind) × (o ≡ Some kind)
some_row None z true h e = absurd (cc)
some_row None true false h e = absurd (cc)
some_row None false f h e = absurd (cc)
some_row (Some kind) z f h e = (kind, refl)

-- each start of a verified text has an instruction
pub start_instruction : (text : List ℕ) (place : ℕ) → IsVerified text → is_start text place ≡ true → (kind : OpKind) × (instruction_at text place ≡ Some kind)
start_instruction text place v h =
    let there : (place < slot_count text) × (((slot_of text place).opcode == 0) ≡ false) = start_there text place h in
    let found : (kind : OpKind) × (kind_at (slot_of text place).opcode ≡ Some kind) = some_row
    (kind_at (slot_of text place).opcode) ((slot_of text place).opcode == 0) (follows_wide text place)
    (rows_at text place v there.0).0 there.1 in
    (found.0, there_instruction text place there.0 ∙ found.1)

-- a jump, or a call into the program, leads to a start
pub target_start : (text : List ℕ) (place : ℕ) (kind : OpKind) (target : ℤ) → IsVerified text
    → instruction_at text place ≡ Some kind → leads_to kind (slot_of text place) place ≡ Some target
    → is_start_at text target ≡ true
target_start text place kind target v h e =
    not-false (is_start_at text target) (ap (is_astray text) (sym e) ∙ (no_row_applies text place kind v h).1.1.1.1.1.1.0)

zero_has_no_row : kind_at 0 ≡ None
unfolding kind_at
zero_has_no_row = refl

refused : (x : Option OpKind) (z w : Bool) → (is_none x && not (z && w)) ≡ false → x ≡ None → z ≡ true → w ≡ false → ⊥
refused None true true h n e f = absurd (cc)
refused None true false h n e f = absurd (cc)
refused None false w h n e f = absurd (cc)
refused (Some k) z w h n e f = absurd (cc)

opcode_not_zero : (o : ℕ) (w : Bool) → (is_none (kind_at o) && not ((o == 0) && w)) ≡ false → w ≡ false → o ≢ 0
opcode_not_zero o w h e = λ (z : o ≡ 0). refused (kind_at o) (o == 0) w h (ap kind_at z ∙ zero_has_no_row) (eq-eqb o 0 z) e

-- a slot that is there and does not follow `lddw` is a start
start_unless_after_wide : (text : List ℕ) (place : ℕ) → IsVerified text → place < slot_count text → follows_wide text place ≡ false → is_start text place ≡ true
start_unless_after_wide text place v l f = make_start text place l (opcode_not_zero (slot_of text place).opcode (follows_wide text place) (rows_at text place v l).0 f)

open_end_facts : (o : ℕ) → not ((o == 0x95) || (o == 0x05)) ≡ false → (o ≡ 0x95) ⊎ (o ≡ 0x05)
open_end_facts o h = grind (arith, nat_tests)

-- the last slot's opcode is that of `exit` or of `ja`
last_ends : (text : List ℕ) (place : ℕ) → IsVerified text → place ≡ slot_count text - 1 → ((slot_of text place).opcode ≡ 0x95) ⊎ ((slot_of text place).opcode ≡ 0x05)
last_ends text place v e = rw e (open_end_facts (slot_of text (slot_count text - 1)).opcode v.end)

-- a slot whose opcode is neither of the two is not the last
not_last : (text : List ℕ) (place : ℕ) → IsVerified text → place < slot_count text → (slot_of text place).opcode ≢ 0x95 → (slot_of text place).opcode ≢ 0x05 → place + 1 < slot_count text
not_last text place v l a b = at_end place (slot_count text) l (λ e. ⊎_elim a b (last_ends text place v e))
  where
    at_end : (p n : ℕ) → p < n → (p ≡ n - 1 → ⊥) → p + 1 < n
    at_end p n l h = omega arith

not_exit : (o : ℕ) (kind : OpKind) → kind_at o ≡ Some kind → goes_on kind ≡ true → (o ≢ 0x95) × (o ≢ 0x05)
unfolding kind_at
not_exit o kind h g = (
  λ (e : o ≡ 0x95). let k : kind_at 0x95 ≡ Some kind = ap kind_at (sym e) ∙ h in let same : Exit ≡ kind = cc in absurd (let z : goes_on Exit ≡ true = ap goes_on same ∙ g in cc),
  λ (e : o ≡ 0x05). let k : kind_at 0x05 ≡ Some kind = ap kind_at (sym e) ∙ h in let same : Jump ≡ kind = cc in absurd (let z : goes_on Jump ≡ true = ap goes_on same ∙ g in cc),
)

pub not_wide : (o : ℕ) (kind : OpKind) → kind_at o ≡ Some kind → kind ≢ LoadWide → (o == 0x18) ≡ false
unfolding kind_at
not_wide o kind h n = ne_eqb o 0x18 (λ (e : o ≡ 0x18). let k : kind_at 0x18 ≡ Some kind = ap kind_at (sym e) ∙ h in n (cc))

wide_or_one : (kind : OpKind) → (kind ≡ LoadWide) ⊎ ((slots_taken kind ≡ 1) × (kind ≢ LoadWide))
wide_or_one LoadWide = inl refl
wide_or_one _ = inr (refl, λ h. cc)

-- after a slot that is not `lddw`
pub follows_one : (text : List ℕ) (place : ℕ) → ((slot_of text place).opcode == 0x18) ≡ false → follows_wide text (place + 1) ≡ false
follows_one text place h = rw add-one h

-- the place after an instruction of one slot that goes on
after_one : (text : List ℕ) (place : ℕ) (kind : OpKind) → IsVerified text → instruction_at text place ≡ Some kind → goes_on kind ≡ true → kind ≢ LoadWide → is_start text (place + 1) ≡ true
after_one text place kind v h g n =
    let there : (place < slot_count text) × (kind_at (slot_of text place).opcode ≡ Some kind) = instruction_there text place kind h in
    let ends : ((slot_of text place).opcode ≢ 0x95) × ((slot_of text place).opcode ≢ 0x05) = not_exit (slot_of text place).opcode kind there.1 g in
    start_unless_after_wide text (place + 1) v (not_last text place v there.0 ends.0 ends.1) (follows_one text place (not_wide (slot_of text place).opcode kind there.1 n))

second_half_facts : (n k : ℕ) (o : ℕ) (d s f : Bool) → not (nat_lt n k && (o == 0) && d && s && f) ≡ false → (n < k) × (o ≡ 0)
second_half_facts n k o d s f h = (grind (arith, nat_tests), grind (arith, nat_tests))

-- the slot after `lddw` is there, and its opcode is 0
pub second_half : (text : List ℕ) (place : ℕ) → IsVerified text → instruction_at text place ≡ Some LoadWide → (place + 1 < slot_count text) × ((slot_of text (place + 1)).opcode ≡ 0)
second_half text place v h = second_half_facts (place + 1) (slot_count text) (slot_of text (place + 1)).opcode _ _ _ (no_row_applies text place LoadWide v h).0

after_two : (text : List ℕ) (place : ℕ) → IsVerified text → instruction_at text place ≡ Some LoadWide → is_start text (place + 2) ≡ true
after_two text place v h =
    let half : (place + 1 < slot_count text) × ((slot_of text (place + 1)).opcode ≡ 0) = second_half text place v h in
    let zero_is_other : (o : ℕ) → o ≡ 0 → (o ≢ 0x95) × ((o ≢ 0x05) × ((o == 0x18) ≡ false)) = λ o e. (omega arith, (omega arith, grind (arith, nat_tests))) in
    let other : ((slot_of text (place + 1)).opcode ≢ 0x95)
    × (((slot_of text (place + 1)).opcode ≢ 0x05) × (((slot_of text (place + 1)).opcode == 0x18) ≡ false)) =
    zero_is_other (slot_of text (place + 1)).opcode half.1 in
    let same : place + 2 ≡ place + 1 + 1 = omega arith in
    rw same (start_unless_after_wide text (place + 1 + 1) v (not_last text (place + 1) v half.0 other.0 other.1.0) (follows_one text (place + 1) other.1.1))

-- the place after an instruction that goes on is a start
pub next_start : (text : List ℕ) (place : ℕ) (kind : OpKind) → IsVerified text → instruction_at text place ≡ Some kind → goes_on kind ≡ true → is_start text (place + slots_taken kind) ≡ true
next_start text place kind v h g = ⊎_elim
    (λ (wide : kind ≡ LoadWide). rw wide (after_two text place v (h ∙ ap (λ k. Some k) wide)))
    (λ (one : (slots_taken kind ≡ 1) × (kind ≢ LoadWide)). rw one.0 (after_one text place kind v h g one.1))
    (wide_or_one kind)

-- the second half of `lddw` is no start
pub half_no_start : (text : List ℕ) (place : ℕ) → IsVerified text → instruction_at text place ≡ Some LoadWide → is_start text (place + 1) ≡ false
unfolding is_start
half_no_start text place v h = zero_no_start (nat_lt (place + 1) (slot_count text)) (slot_of text (place + 1)).opcode (second_half text place v h).1
  where
    zero_no_start : (b : Bool) (o : ℕ) → o ≡ 0 → (b && not (o == 0)) ≡ false
    zero_no_start b o h = grind (arith, nat_tests)

some_slots : (n : ℕ) → ((n == 0) || not (n % 8 == 0) || nat_lt max_slots (n / 8)) ≡ false → (0 < n / 8) × (n / 8 ≤ max_slots)
some_slots n h = (grind (arith, nat_tests), grind (arith, nat_tests))

-- a verified text has a slot, and no more than a text may have
pub slots_there : (text : List ℕ) → IsVerified text → (0 < slot_count text) × (slot_count text ≤ max_slots)
slots_there text v = some_slots (length text) v.len

-- a start is below the most slots that a text has
pub start_below : (text : List ℕ) (place : ℕ) → IsVerified text → is_start text place ≡ true → place < max_slots
start_below text place v h = omega (arith, (start_there text place h).0, (slots_there text v).1)

-- the first slot is a start
pub first_start : (text : List ℕ) → IsVerified text → is_start text 0 ≡ true
first_start text v = start_unless_after_wide text 0 v (slots_there text v).0 refl

-- each place that is reached is a start
pub reached_start : (text : List ℕ) (place : ℕ) → IsVerified text → Reached text place → is_start text place ≡ true
reached_start text place v first = first_start text v
reached_start text place v (after r h g) = next_start text _ _ v h g
reached_start text place v (jumped r h e) = target_start text _ _ (pos place) v h e
reached_start text place v (called r h s) = s

within : (low high z : ℤ) → is_outside low high z ≡ false → (low ≤ℤ z) × (z ≤ℤ high)
within low high z h = let both : (int_lt z low ≡ false) × (int_lt high z ≡ false) = or_parts _ _ h in (grind (arith, ints), grind (arith, ints))

-- the registers of an instruction of a verified text
pub has_registers : (text : List ℕ) (place : ℕ) (kind : OpKind) → IsVerified text → instruction_at text place ≡ Some kind → HasRegisters (slot_of text place) kind
has_registers text place kind v h =
    let none : (nat_lt 10 (slot_of text place).dst || nat_lt 10 (slot_of text place).src || calls_bad_register (slot_of text place) kind) ≡ false = (no_row_applies text place kind v h).1.0 in
    let three : ((nat_lt 10 (slot_of text place).dst || nat_lt 10 (slot_of text place).src) ≡ false) × (calls_bad_register (slot_of text place) kind ≡ false) = or_parts _ _ none in
    let two : (nat_lt 10 (slot_of text place).dst ≡ false) × (nat_lt 10 (slot_of text place).src ≡ false) = or_parts _ _ three.0 in
    record {
      dst = ltb-false 10 _ two.0;
      src = ltb-false 10 _ two.1;
      called = λ e. within (pos 0) (pos 9) (slot_of text place).imm (ap (calls_bad_register (slot_of text place)) (sym e) ∙ three.1);
    }

-- the second half of `lddw` is not reached
pub reached_half : (text : List ℕ) (place : ℕ) → IsVerified text → instruction_at text place ≡ Some LoadWide → Reached text (place + 1) → ⊥
reached_half text place v h r = let e : true ≡ false = sym (reached_start text (place + 1) v r) ∙ half_no_start text place v h in absurd (cc)

natural : (text : List ℕ) (target : ℤ) → is_start_at text target ≡ true → (n : ℕ) × ((target ≡ pos n) × (is_start text n ≡ true))
natural text (pos n) h = (n, (refl, h))
natural text (negsuc n) h = absurd (cc)

-- the place that a jump leads to, as a number
pub natural_target : (text : List ℕ) (place : ℕ) (kind : OpKind) (target : ℤ) → IsVerified text
    → instruction_at text place ≡ Some kind → leads_to kind (slot_of text place) place ≡ Some target
    → (n : ℕ) × ((target ≡ pos n) × (n < max_slots))
natural_target text place kind target v h e =
    let found : (n : ℕ) × ((target ≡ pos n) × (is_start text n ≡ true)) = natural text target (target_start text place kind target v h e) in
    (found.0, (found.1.0, omega (arith, (start_there text found.0 found.1.1).0, (slots_there text v).1)))

one_of_three : (a b c : Bool) → not (a || b || c) ≡ false → (a ≡ true) ⊎ ((b ≡ true) ⊎ (c ≡ true))
one_of_three true b c h = inl refl
one_of_three false true c h = inr (inl refl)
one_of_three false false true h = inr (inr refl)
one_of_three false false false h = absurd (cc)

same_number : (z w : ℤ) → int_eq z w ≡ true → z ≡ w
same_number z w h = grind (arith, ints)

-- the widths of `le` and `be`
pub is_width : (z : ℤ) → is_no_width z ≡ false → (z ≡ pos 16) ⊎ ((z ≡ pos 32) ⊎ (z ≡ pos 64))
is_width z h = ⊎_elim
    (λ a. inl (same_number z (pos 16) a))
    (λ r. ⊎_elim (λ b. inr (inl (same_number z (pos 32) b))) (λ c. inr (inr (same_number z (pos 64) c))) r)
    (one_of_three (int_eq z (pos 16)) (int_eq z (pos 32)) (int_eq z (pos 64)) h)

helper_there : (slot : Slot) → ((slot.src == 0) && is_outside (pos 1) (pos invoke_call) slot.imm) ≡ false → slot.src ≡ 0 → is_outside (pos 1) (pos invoke_call) slot.imm ≡ false
helper_there slot h e = both (slot.src == 0) (is_outside (pos 1) (pos invoke_call) slot.imm) h (eq-eqb slot.src 0 e)
  where
    both : (a b : Bool) → (a && b) ≡ false → a ≡ true → b ≡ false
    both true b h e = h
    both false b h e = absurd (cc)

-- the values of `le`, `be` and `call` in a verified text
pub has_values : (text : List ℕ) (place : ℕ) (kind : OpKind) → IsVerified text → instruction_at text place ≡ Some kind → HasValues (slot_of text place) kind
has_values text place kind v h =
    let slot : Slot = slot_of text place in
    let field : has_bad_value slot kind ≡ false = (or_parts (has_stray_field slot (used kind)) (has_bad_value slot kind) (no_row_applies text place kind v h).1.1.1.0).1 in
    let helper : calls_no_helper slot kind ≡ false = (no_row_applies text place kind v h).1.1.1.1.1.1.1.0 in
    record {
      little = λ e. is_width slot.imm (ap (has_bad_value slot) (sym e) ∙ field);
      big = λ e. is_width slot.imm (ap (has_bad_value slot) (sym e) ∙ field);
      source = λ e. ltb-false 1 slot.src (ap (has_bad_value slot) (sym e) ∙ field);
      helper = λ e zero. within (pos 1) (pos invoke_call) slot.imm (helper_there slot (ap (calls_no_helper slot) (sym e) ∙ helper) zero);
    }

small_number : (z : ℤ) → (pos 0 ≤ℤ z) × (z ≤ℤ pos 9) → cast_unsigned w64 z ≤ 9
small_number z h = omega (arith, ints)

helper_number : (z : ℤ) → (pos 1 ≤ℤ z) × (z ≤ℤ pos invoke_call) → IsCallNumber (cast_unsigned w64 z)
helper_number z h = (omega (arith, ints), omega (arith, ints))

no_source : (n : ℕ) → n ≤ 1 → n ≢ 1 → n ≡ 0
no_source n h other = omega arith

entry_target : (text : List ℕ) (place : ℕ) (kind : OpKind) (n : ℕ) (o : Option ℤ) → IsVerified text
    → instruction_at text place ≡ Some kind → leads_to kind (slot_of text place) place ≡ o
    → pos n ≡ unwrap_or o (pos 0) → is_start text n ≡ true
entry_target text place kind n None v h e t = let zero : n ≡ 0 = cc in rw zero (first_start text v)
entry_target text place kind n (Some target) v h e t = ap (is_start_at text) t ∙ target_start text place kind target v h e

-- the entry of a start fits the text
pub entry_fits : (text : List ℕ) (entries : List Entry) (place : ℕ) (entry : Entry) → IsVerified text
    → IsDecoded text entries → slice_get entries place ≡ Some entry → is_start text place ≡ true
    → Fits text place entry
entry_fits text entries place entry v d found start =
    let is : Decodes text place entry = d.each place entry found start in
    let registers : HasRegisters (slot_of text place) (meaning entry.opcode) = has_registers text place (meaning entry.opcode) v is.kind in
    let values : HasValues (slot_of text place) (meaning entry.opcode) = has_values text place (meaning entry.opcode) v is.kind in
    record {
      dst = rw is.dst registers.dst;
      src = rw is.src registers.src;
      called = λ e. rw (is.imm ∙ ap (immediate_of text place) e) (small_number (slot_of text place).imm (registers.called e));
      helper = λ e other.
          let source : (slot_of text place).src ≢ 1 = λ one. other (is.src ∙ one) in
          rw (is.imm ∙ ap (immediate_of text place) e) (helper_number (slot_of text place).imm (values.helper e (no_source (slot_of text place).src (values.source e) source)));
      target = entry_target text place (meaning entry.opcode) entry.target _ v is.kind refl is.target;
      next = next_start text place (meaning entry.opcode) v is.kind;
    }

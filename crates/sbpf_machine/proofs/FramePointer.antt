-- r10 is always the end of the active frame.
use Rattle.std.proofs.Common.{◌≡◌, ◌≢◌, ◌<◌, ◌+◌, ◌-◌, ◌%◌, ◌^◌, ◌==◌, ◌&&◌, ◌||◌, ⊎_elim, not, ℕ, Bool, true, false, List, [], ◌∷◌, length, take, set, Option, Some, None, Result, Ok, Err, refl, ap, sym, ◌∙◌, arith, if◌then◌else◌}
use Rattle.std.specs.Prelude.{nat_le, slice_get}
use Rattle.std.specs.Int.{w32, w64}
use Rattle.std.proofs.lemmas.Bool.{and_parts, eqb-true}
use Rattle.std.proofs.lemmas.Bool.Decides.{nat_tests}
use Rattle.std.proofs.lemmas.List.{length-set, length-take-le, get_or-set_same, get_or-set_other}
use Rattle.sbpf_isa.specs.Rows.{Row, kind_at, kind_in, rows}
use Rattle.sbpf_isa.specs.Slots.{slot_of}
use Rattle.sbpf_isa.specs.declared.rows.Operation.{Operation}
use Rattle.sbpf_isa.specs.declared.rows.OpKind.{OpKind}
use Rattle.sbpf_isa.specs.declared.rows.OpKind.TheVariants.{Binary, Negate, LittleEndian, BigEndian, Jump, JumpIf, Call, CallRegister, Exit, Load, Store, LoadWide}
use Rattle.sbpf_isa.specs.declared.rows.Width.TheVariants.{Bits64, Bits32}
use Rattle.sbpf_verify.specs.Places.{instruction_at}
use Rattle.sbpf_verify.specs.Verified.{IsVerified, writes_frame}
use Rattle.sbpf_verify.proofs.Starts.{instruction_there, no_row_applies}
use Rattle.sbpf_memory.specs.Memory.{Ranges, frame_count, frame_step}
use Rattle.sbpf_memory.specs.declared.fault.AccessViolation.{AccessViolation}
use Rattle.sbpf_machine.specs.declared.context.Context.{Context}
use Rattle.sbpf_machine.specs.declared.frames.Kept.{Kept}
use Rattle.sbpf_machine.specs.declared.stop.Fault.TheVariants.{DivideByZero, CallDepth}
use Rattle.sbpf_machine.specs.declared.stop.Stop.TheVariants.{Helper}
use Rattle.sbpf_machine.specs.Values.{divides, value_of}
use Rattle.sbpf_machine.specs.FramePointer.{PointsToFrame}
use Rattle.sbpf_machine.proofs.Holding.{RowHolds, steps_hold, ways_hold}
use Rattle.sbpf_machine.proofs.Paths.{either}
use Rattle.sbpf_machine.proofs.Waiting.{count_more, of_front, one_more, there_below}
use Rattle.sbpf_machine.specs.Steps.{Next, Go, Halt, Operands, State, Reaches, first_state, resumed, steps, step, row_of, act, operands_at, binary32, binary64, fault, frame_end, frame_kept, new_frame, put, enter, enter_at, leave, last_kept, load, store, register}

-- the instructions that write their destination register
abbrev writes : OpKind → Bool
writes (Binary op width form) = true
writes (Negate width) = true
writes LittleEndian = true
writes BigEndian = true
writes (Load size) = true
writes LoadWide = true
writes Jump = false
writes (JumpIf when form) = false
writes Call = false
writes CallRegister = false
writes Exit = false
writes (Store size form) = false

-- the classes whose destination may not be r10
abbrev has_class : ℕ → Bool
has_class opcode = let class = opcode % 8 in (class == 0) || (class == 1) || (class == 4) || (class == 7)

abbrev have_class : List Row → Bool
have_class [] = true
have_class (r ∷ rs) = (not (writes r.kind) || has_class r.opcode) && have_class rs

unless : (a b : Bool) → (not a || b) ≡ true → a ≡ true → b ≡ true
unless true b h w = h
unless false b h w = absurd (cc)

class_here : (n : ℕ) (kind : OpKind) (r : Row) (rest : Option OpKind) (b : Bool)
    → (not (writes r.kind) || has_class r.opcode) ≡ true
    → (rest ≡ Some kind → writes kind ≡ true → has_class n ≡ true) → (n == r.opcode) ≡ b
    → (if b then Some r.kind else rest) ≡ Some kind → writes kind ≡ true → has_class n ≡ true
class_here n kind r rest true ok onward is h w =
    let same : r.kind ≡ kind = cc in
    ap has_class (eqb-true n r.opcode is) ∙ unless (writes r.kind) (has_class r.opcode) ok (ap writes same ∙ w)
class_here n kind r rest false ok onward is h w = onward h w

class_in : (n : ℕ) (kind : OpKind) (rs : List Row) → have_class rs ≡ true → kind_in n rs ≡ Some kind → writes kind ≡ true → has_class n ≡ true
class_in n kind [] ok h w = absurd (cc)
class_in n kind (r ∷ rs) ok h w =
    let oks = and_parts (not (writes r.kind) || has_class r.opcode) (have_class rs) ok in
    class_here n kind r (kind_in n rs) (n == r.opcode) oks.0 (class_in n kind rs oks.1) refl h w

class_of : (n : ℕ) (kind : OpKind) → kind_at n ≡ Some kind → writes kind ≡ true → has_class n ≡ true
unfolding kind_at
class_of n kind h w = class_in n kind rows refl h w

not_ten : (class : Bool) (n : ℕ) → (class && (n == 10)) ≡ false → class ≡ true → n ≢ 10
not_ten class n h w = grind (arith, nat_tests)

-- no instruction of a verified text writes r10
dst_free : (text : List ℕ) (p : ℕ) (kind : OpKind) → IsVerified text → instruction_at text p ≡ Some kind → writes kind ≡ true → (slot_of text p).dst ≢ 10
dst_free text p kind v h w =
    let free : writes_frame (slot_of text p) ≡ false = (no_row_applies text p kind v h).1.1.0 in
    not_ten (has_class (slot_of text p).opcode) (slot_of text p).dst free (class_of (slot_of text p).opcode kind (instruction_there text p kind h).1 w)

-- a write of another register
put_points : (r value : ℕ) (c : Context) → r ≢ 10 → PointsToFrame c → PointsToFrame (put r value c)
put_points r value c other h = record {
  registers = length-set c.registers r value ∙ h.registers;
  frames = h.frames;
  active = get_or-set_other c.registers r 10 value 0 (λ same. other (sym same)) ∙ h.active;
  kept = h.kept;
}

next_end : (n pointer : ℕ) → n < frame_count → pointer ≡ frame_end n → (pointer + frame_step) % 2 ^ 64 ≡ frame_end (n + 1)
next_end n pointer few is = omega arith

new_frame_points : (p : ℕ) (c : Context) → length c.frames + 1 < frame_count → PointsToFrame c → PointsToFrame (new_frame p c)
new_frame_points p c room h = record {
  registers = length-set c.registers 10 ((register c 10 + frame_step) % 2 ^ 64) ∙ h.registers;
  frames = rw (count_more c.frames (frame_kept p c)) room;
  active = get_or-set_same c.registers 10 ((register c 10 + frame_step) % 2 ^ 64) 0 (omega (arith, h.registers))
      ∙ next_end (length c.frames) (register c 10) h.frames h.active
      ∙ ap frame_end (sym (count_more c.frames (frame_kept p c)));
  kept = λ k frame there. ⊎_elim
      (λ (old : slice_get c.frames k ≡ Some frame). h.kept k frame old)
      (λ (new : (frame ≡ frame_kept p c) × (k ≡ length c.frames)). ap (λ (f : Kept). f.r10) new.0 ∙ h.active ∙ ap frame_end (sym new.1))
      (one_more c.frames (frame_kept p c) frame k there);
}

-- what a row leads to points to its frame
abbrev RowPoints : Next → Type 0
RowPoints = RowHolds PointsToFrame

below : (n : ℕ) → nat_le frame_count n ≡ false → n < frame_count
below n h = grind (arith, nat_tests)

enter_points : (to p : ℕ) (c : Context) → PointsToFrame c → RowPoints (enter to p c)
enter_points to p c h = by_room (nat_le frame_count (length c.frames + 1)) refl
  where
    by_room : (b : Bool) → nat_le frame_count (length c.frames + 1) ≡ b → RowPoints (if b then fault CallDepth c else Go to (new_frame p c))
    by_room true is = h
    by_room false is = new_frame_points p c (below (length c.frames + 1) is) h

enter_at_points : (value p : ℕ) (c : Context) (to : Option ℕ) → PointsToFrame c → RowPoints (enter_at value p c to)
enter_at_points value p c None h = h
enter_at_points value p c (Some to) h = enter_points to p c h

abbrev five : List ℕ → Kept → List ℕ
five rs k = set (set (set (set rs 6 k.r6) 7 k.r7) 8 k.r8) 9 k.r9

five_length : (rs : List ℕ) (k : Kept) → length (five rs k) ≡ length rs
five_length rs k = length-set (set (set (set rs 6 k.r6) 7 k.r7) 8 k.r8) 9 k.r9 ∙ length-set (set (set rs 6 k.r6) 7 k.r7) 8 k.r8 ∙ length-set (set rs 6 k.r6) 7 k.r7 ∙ length-set rs 6 k.r6

leave_points : (c : Context) (kept : Option Kept) → last_kept c ≡ kept → PointsToFrame c → RowPoints (leave kept c)
leave_points c None is h = h
leave_points c (Some kept) is h =
    let last : length c.frames - 1 < length c.frames = there_below c.frames (length c.frames - 1) kept is in
    let size : length (take (length c.frames - 1) c.frames) ≡ length c.frames - 1 = length-take-le (length c.frames - 1) c.frames (omega (arith, last)) in
    record {
      registers = length-set (five c.registers kept) 10 kept.r10 ∙ five_length c.registers kept ∙ h.registers;
      frames = omega (arith, size, h.frames);
      active = get_or-set_same (five c.registers kept) 10 kept.r10 0 (omega (arith, five_length c.registers kept, h.registers)) ∙ h.kept (length c.frames - 1) kept is ∙ ap frame_end (sym size);
      kept = λ k frame there. h.kept k frame (of_front (length c.frames - 1) c.frames frame k there);
    }

load_points : (r p : ℕ) (c : Context) (answer : Result ℕ AccessViolation) → r ≢ 10 → PointsToFrame c → RowPoints (load r p c answer)
load_points r p c (Ok value) other h = put_points r value c other h
load_points r p c (Err v) other h = h

with_memory : (c : Context) (memory : Ranges) → PointsToFrame c → PointsToFrame (record c { memory = memory })
with_memory c memory h = record { registers = h.registers; frames = h.frames; active = h.active; kept = h.kept }

store_points : (p : ℕ) (c : Context) (answer : Result Ranges AccessViolation) → PointsToFrame c → RowPoints (store p c answer)
store_points p c (Ok memory) h = with_memory c memory h
store_points p c (Err v) h = h

binary64_points : (op : Operation) (r s p : ℕ) (c : Context) → r ≢ 10 → PointsToFrame c → RowPoints (binary64 op r s p c)
binary64_points op r s p c other h =
    either RowPoints (divides op && (s == 0)) (fault DivideByZero c) (Go (p + 1) (put r (value_of op w64 (register c r) s) c)) h (put_points r _ c other h)

binary32_points : (op : Operation) (r s p : ℕ) (c : Context) → r ≢ 10 → PointsToFrame c → RowPoints (binary32 op r s p c)
binary32_points op r s p c other h =
    either RowPoints (divides op && (s % 2 ^ 32 == 0)) (fault DivideByZero c) (Go (p + 1) (put r (value_of op w32 (register c r % 2 ^ 32) (s % 2 ^ 32)) c)) h (put_points r _ c other h)

act_points : (kind : OpKind) (text : List ℕ) (p : ℕ) (c : Context) → IsVerified text → instruction_at text p ≡ Some kind → PointsToFrame c → RowPoints (act kind text (operands_at text p kind) p c)
act_points (Binary op Bits64 form) text p c v t h = binary64_points op _ _ p c (dst_free text p (Binary op Bits64 form) v t refl) h
act_points (Binary op Bits32 form) text p c v t h = binary32_points op _ _ p c (dst_free text p (Binary op Bits32 form) v t refl) h
act_points (Negate Bits64) text p c v t h = put_points _ _ c (dst_free text p (Negate Bits64) v t refl) h
act_points (Negate Bits32) text p c v t h = put_points _ _ c (dst_free text p (Negate Bits32) v t refl) h
act_points LittleEndian text p c v t h = put_points _ _ c (dst_free text p LittleEndian v t refl) h
act_points BigEndian text p c v t h = put_points _ _ c (dst_free text p BigEndian v t refl) h
act_points Jump text p c v t h = h
act_points (JumpIf when form) text p c v t h = h
act_points Call text p c v t h =
    let o : Operands = operands_at text p Call in
    either RowPoints (o.src == 1) (enter o.target p c) (Halt (Helper (o.imm % 2 ^ 32)) c) (enter_points o.target p c h) h
act_points CallRegister text p c v t h = enter_at_points _ p c _ h
act_points Exit text p c v t h = leave_points c (last_kept c) refl h
act_points (Load size) text p c v t h = load_points _ p c _ (dst_free text p (Load size) v t refl) h
act_points (Store size form) text p c v t h = store_points p c _ h
act_points LoadWide text p c v t h = put_points _ _ c (dst_free text p LoadWide v t refl) h

row_points : (text : List ℕ) (p : ℕ) (c : Context) (kind : Option OpKind) → IsVerified text → instruction_at text p ≡ kind → PointsToFrame c → RowPoints (row_of text p c kind)
row_points text p c None v t h = tt
row_points text p c (Some kind) v t h = act_points kind text p c v t h

step_points : (text : List ℕ) (p : ℕ) (c : Context) → IsVerified text → PointsToFrame c → RowPoints (step text p c)
unfolding step
step_points text p c v h = row_points text p c (instruction_at text p) v refl h

-- what a run comes to points to its frame
pub steps_point : (x y : State) → IsVerified x.text → steps x ≡ Some y → PointsToFrame x.context → PointsToFrame y.context
steps_point x y v s h = (steps_hold PointsToFrame x y (λ p c k. step_points x.text p c v k) s h).1

pub ways_point : (x y : State) → IsVerified x.text → Reaches x y → PointsToFrame x.context → PointsToFrame y.context
ways_point x y v way h = (ways_hold PointsToFrame x y (λ p c k. step_points x.text p c v k) way h).1

pub first_points : (text : List ℕ) (memory : Ranges) (units : ℕ) → PointsToFrame (first_state text memory units).context
first_points text memory units = record { registers = refl; frames = omega arith; active = refl; kept = λ k frame there. absurd (cc) }

pub resumed_points : (x : State) (r0 : ℕ) → PointsToFrame x.context → PointsToFrame (resumed x r0).context
resumed_points x r0 h = put_points 0 r0 x.context (λ (same : 0 ≡ 10). omega arith) h

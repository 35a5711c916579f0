-- A verified text never leaves its rows: each instruction leads to where one starts.
use Rattle.std.proofs.Common.{◌≡◌, ◌+◌, ◌*◌, ◌%◌, ◌^◌, ◌==◌, ◌&&◌, ⊎_elim, ℕ, suc, Bool, true, false, List, [], ◌∷◌, ◌++◌, length, Option, Some, None, Result, Ok, Err, refl, ap, sym, ◌∙◌, subst, if◌then◌else◌, ℤ, pos, negsuc, ◌+ℤ◌}
use Rattle.std.specs.Prelude.{nat_le, slice_get, unwrap_or}
use Rattle.std.specs.Int.{w32, w64}
use Rattle.sbpf_isa.specs.Slots.{slot_of}
use Rattle.sbpf_isa.specs.declared.rows.Operation.{Operation}
use Rattle.sbpf_isa.specs.declared.rows.OpKind.{OpKind}
use Rattle.sbpf_isa.specs.declared.rows.OpKind.TheVariants.{Binary, Negate, LittleEndian, BigEndian, Jump, JumpIf, Call, CallRegister, Exit, Load, Store, LoadWide}
use Rattle.sbpf_isa.specs.declared.rows.Width.TheVariants.{Bits64, Bits32}
use Rattle.sbpf_verify.specs.Places.{is_start, is_start_at, instruction_at, leads_to}
use Rattle.sbpf_verify.specs.Verified.{IsVerified}
use Rattle.sbpf_verify.proofs.Starts.{start_instruction, target_start, next_start}
use Rattle.sbpf_memory.specs.Memory.{Ranges, frame_count, program_start}
use Rattle.sbpf_memory.specs.declared.fault.AccessViolation.{AccessViolation}
use Rattle.sbpf_machine.specs.declared.context.Context.{Context}
use Rattle.sbpf_machine.specs.declared.frames.Kept.{Kept}
use Rattle.sbpf_machine.specs.declared.stop.Fault.TheVariants.{DivideByZero, CallDepth}
use Rattle.sbpf_machine.specs.declared.stop.Stop.TheVariants.{Helper}
use Rattle.sbpf_machine.proofs.Paths.{either}
use Rattle.sbpf_machine.proofs.Waiting.{of_front, one_more}
use Rattle.sbpf_machine.specs.Flows.{GoBack}
use Rattle.sbpf_machine.specs.Runs.{StandsAtStart}
use Rattle.sbpf_machine.specs.Values.{divides, value_of}
use Rattle.sbpf_machine.specs.Steps.{Next, Go, Halt, Stuck, State, Reaches, here, on, going, step, row_of, act, operands_at, natural, binary32, binary64, fault, frame_kept, new_frame, put, enter, enter_at, leave, last_kept, load, store, register, slot_at_address, start_at_address}

-- a row leads to where an instruction starts, or stops; and it is there
abbrev RowLands : List ℕ → Next → Type 0
RowLands text (Go to c) = (is_start text to ≡ true) × GoBack text c.frames
RowLands text (Halt stop c) = Unit {0}
RowLands text Stuck = ⊥

natural_start : (text : List ℕ) (z : ℤ) → is_start_at text z ≡ true → is_start text (natural z) ≡ true
natural_start text (pos n) h = h
natural_start text (negsuc n) h = absurd (cc)

-- where a jump leads
jump_start : (text : List ℕ) (p : ℕ) (kind : OpKind) (z : ℤ) → IsVerified text → instruction_at text p ≡ Some kind → leads_to kind (slot_of text p) p ≡ Some z → is_start text (natural z) ≡ true
jump_start text p kind z verified there leads = natural_start text z (target_start text p kind z verified there leads)

-- the frames that wait, with one more
back_with : (text : List ℕ) (frames : List Kept) (frame : Kept) → GoBack text frames → is_start text frame.back ≡ true → GoBack text (frames ++ frame ∷ [])
back_with text frames frame backs start = λ k x h. ⊎_elim
    (λ (old : slice_get frames k ≡ Some x). backs k x old)
    (λ (new : (x ≡ frame) × (k ≡ length frames)). ap (λ (f : Kept). is_start text f.back) new.0 ∙ start)
    (one_more frames frame x k h)

enter_lands : (text : List ℕ) (to p : ℕ) (c : Context) → is_start text to ≡ true → is_start text (p + 1) ≡ true → GoBack text c.frames → RowLands text (enter to p c)
enter_lands text to p c start next backs =
    either (RowLands text) (nat_le frame_count (length c.frames + 1)) (fault CallDepth c) (Go to (new_frame p c)) tt (start, back_with text c.frames (frame_kept p c) backs next)

call_lands : (text : List ℕ) (p src number : ℕ) (z : ℤ) (c : Context) (b : Bool) → (b ≡ true → is_start text (natural z) ≡ true) → is_start text (p + 1) ≡ true → GoBack text c.frames →
    RowLands text (if b then enter (natural (unwrap_or (if b then Some z else None) (pos 0))) p c else Halt (Helper number) c)
call_lands text p src number z c true start next backs = enter_lands text (natural z) p c (start refl) next backs
call_lands text p src number z c false start next backs = tt

leave_lands : (text : List ℕ) (c : Context) (kept : Option Kept) → last_kept c ≡ kept → GoBack text c.frames → RowLands text (leave kept c)
leave_lands text c None h backs = tt
leave_lands text c (Some kept) h backs = (backs _ kept h, λ k x there. backs k x (of_front _ c.frames x k there))

address_start : (text : List ℕ) (value to : ℕ) → start_at_address text value ≡ Some to → is_start text to ≡ true
unfolding start_at_address
address_start text value to h = go (value == program_start + 8 * slot_at_address value) (slot_at_address value) h
  where
    go : (b : Bool) (slot : ℕ) → (if b && is_start text slot then Some slot else None) ≡ Some to → is_start text to ≡ true
    go false slot h = absurd (cc)
    go true slot h = found (is_start text slot) slot refl h
      where
        found : (s : Bool) (slot : ℕ) → is_start text slot ≡ s → (if s then Some slot else None) ≡ Some to → is_start text to ≡ true
        found true slot is h = let same : slot ≡ to = cc in ap (is_start text) (sym same) ∙ is
        found false slot is h = absurd (cc)

enter_at_lands : (text : List ℕ) (value p : ℕ) (c : Context) (to : Option ℕ) → start_at_address text value ≡ to
    → is_start text (p + 1) ≡ true → GoBack text c.frames → RowLands text (enter_at value p c to)
enter_at_lands text value p c None h next backs = tt
enter_at_lands text value p c (Some to) h next backs = enter_lands text to p c (address_start text value to h) next backs

load_lands : (text : List ℕ) (r p : ℕ) (c : Context) (answer : Result ℕ AccessViolation) → is_start text (p + 1) ≡ true → GoBack text c.frames → RowLands text (load r p c answer)
load_lands text r p c (Ok value) next backs = (next, backs)
load_lands text r p c (Err v) next backs = tt

store_lands : (text : List ℕ) (p : ℕ) (c : Context) (answer : Result Ranges AccessViolation) → is_start text (p + 1) ≡ true → GoBack text c.frames → RowLands text (store p c answer)
store_lands text p c (Ok memory) next backs = (next, backs)
store_lands text p c (Err v) next backs = tt

binary64_lands : (text : List ℕ) (op : Operation) (r s p : ℕ) (c : Context) → is_start text (p + 1) ≡ true → GoBack text c.frames → RowLands text (binary64 op r s p c)
binary64_lands text op r s p c next backs =
    either (RowLands text) (divides op && (s == 0)) (fault DivideByZero c) (Go (p + 1) (put r (value_of op w64 (register c r) s) c)) tt (next, backs)

binary32_lands : (text : List ℕ) (op : Operation) (r s p : ℕ) (c : Context) → is_start text (p + 1) ≡ true → GoBack text c.frames → RowLands text (binary32 op r s p c)
binary32_lands text op r s p c next backs =
    either (RowLands text) (divides op && (s % 2 ^ 32 == 0)) (fault DivideByZero c) (Go (p + 1) (put r (value_of op w32 (register c r % 2 ^ 32) (s % 2 ^ 32)) c)) tt (next, backs)

act_lands : (kind : OpKind) (text : List ℕ) (p : ℕ) (c : Context) → IsVerified text
    → instruction_at text p ≡ Some kind → GoBack text c.frames
    → RowLands text (act kind text (operands_at text p kind) p c)
act_lands (Binary op Bits64 form) text p c v t backs = binary64_lands text op _ _ p c (next_start text p (Binary op Bits64 form) v t refl) backs
act_lands (Binary op Bits32 form) text p c v t backs = binary32_lands text op _ _ p c (next_start text p (Binary op Bits32 form) v t refl) backs
act_lands (Negate Bits64) text p c v t backs = (next_start text p (Negate Bits64) v t refl, backs)
act_lands (Negate Bits32) text p c v t backs = (next_start text p (Negate Bits32) v t refl, backs)
act_lands LittleEndian text p c v t backs = (next_start text p LittleEndian v t refl, backs)
act_lands BigEndian text p c v t backs = (next_start text p BigEndian v t refl, backs)
act_lands Jump text p c v t backs = (jump_start text p Jump _ v t refl, backs)
act_lands (JumpIf when form) text p c v t backs = (
  either (λ place. is_start text place ≡ true) _ _ (p + 1) (jump_start text p (JumpIf when form) _ v t refl)
      (next_start text p (JumpIf when form) v t refl),
  backs,
)
act_lands Call text p c v t backs =
    let z : ℤ = pos (p + 1) +ℤ (slot_of text p).imm in
    call_lands text p (slot_of text p).src _ z c ((slot_of text p).src == 1) (λ called. jump_start text p Call z v t (rw called refl)) (next_start text p Call v t refl) backs
act_lands CallRegister text p c v t backs = enter_at_lands text _ p c _ refl (next_start text p CallRegister v t refl) backs
act_lands Exit text p c v t backs = leave_lands text c (last_kept c) refl backs
act_lands (Load size) text p c v t backs = load_lands text _ p c _ (next_start text p (Load size) v t refl) backs
act_lands (Store size form) text p c v t backs = store_lands text p c _ (next_start text p (Store size form) v t refl) backs
act_lands LoadWide text p c v t backs = (next_start text p LoadWide v t refl, backs)

step_lands : (text : List ℕ) (p : ℕ) (c : Context) → IsVerified text → is_start text p ≡ true → GoBack text c.frames → RowLands text (step text p c)
unfolding step
step_lands text p c v start backs =
    let found : (kind : OpKind) × (instruction_at text p ≡ Some kind) = start_instruction text p v start in
    subst (λ (o : Option OpKind). RowLands text (row_of text p c o)) (sym found.1) (act_lands found.0 text p c v found.1 backs)

-- each place that is reached is a start
pub ways_stand : (x y : State) → StandsAtStart x.text x.place x.context x.stop → Reaches x y → StandsAtStart y.text y.place y.context y.stop
ways_stand x y stands here = stands
ways_stand x y stands (on {place} {next} {units} {context} {context'} way s) =
    let before : StandsAtStart x.text place context None = ways_stand x (going x.text place context (suc units)) stands way in
    let lands : RowLands x.text (Go next context') = subst (RowLands x.text) s (step_lands x.text place context before.verified before.start before.backs) in
    record { verified = before.verified; start = lands.0; backs = lands.1; next = λ h. absurd h; number = tt }

-- a row is there
pub never_stuck : (x : State) → StandsAtStart x.text x.place x.context x.stop → step x.text x.place x.context ≡ Stuck → ⊥
never_stuck x stands stuck = subst (RowLands x.text) stuck (step_lands x.text x.place x.context stands.verified stands.start stands.backs)

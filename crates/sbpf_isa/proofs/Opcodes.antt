-- Each kind of instruction has one opcode, and is what that opcode leads to.
use Rattle.std.proofs.Common.{◌≡◌, ℕ, ◌==◌, true, false, Bool, List, [], ◌∷◌, Some, refl, sym, ap, ◌∙◌, map, subst}
use Rattle.std.specs.List.{AllByRecursion}
use Rattle.std.proofs.lemmas.Bool.{eqb-true}
use Rattle.std.proofs.lemmas.Option.{same_Some}
use Rattle.sbpf_isa.specs.declared.rows.Operation.{Operation}
use Rattle.sbpf_isa.specs.declared.rows.Operation.TheVariants.{Add}
use Rattle.sbpf_isa.specs.declared.rows.Width.TheVariants.{Bits64, Bits32}
use Rattle.sbpf_isa.specs.declared.rows.Operand.TheVariants.{Immediate, Register}
use Rattle.sbpf_isa.specs.declared.rows.Condition.{Condition}
use Rattle.sbpf_isa.specs.declared.rows.Condition.TheVariants.{Equal}
use Rattle.sbpf_isa.specs.declared.rows.Size.{Size}
use Rattle.sbpf_isa.specs.declared.rows.Size.TheVariants.{Four}
use Rattle.sbpf_isa.specs.declared.rows.OpKind.{OpKind}
use Rattle.sbpf_isa.specs.declared.rows.OpKind.TheVariants.{Binary, Negate, JumpIf, Load, Store}
use Rattle.sbpf_isa.specs.Rows.{Row, row, rows, kinds, kind_at, kind_in, opcode_of}

abbrev IsOwn : OpKind → Type 0
IsOwn k = kind_at (opcode_of k) ≡ Some k

operation_own : (op : Operation) → (IsOwn (Binary op Bits64 Immediate) × IsOwn (Binary op Bits64 Register)) × (IsOwn (Binary op Bits32 Immediate) × IsOwn (Binary op Bits32 Register))
unfolding kind_at opcode_of
operation_own Add = ((refl, refl), (refl, refl))
operation_own op = ((refl, refl), (refl, refl))

jump_own : (when : Condition) → IsOwn (JumpIf when Immediate) × IsOwn (JumpIf when Register)
unfolding kind_at opcode_of
jump_own Equal = (refl, refl)
jump_own when = (refl, refl)

move_own : (size : Size) → IsOwn (Load size) × (IsOwn (Store size Immediate) × IsOwn (Store size Register))
unfolding kind_at opcode_of
move_own Four = (refl, (refl, refl))
move_own size = (refl, (refl, refl))

-- the opcode of a kind leads to the kind
pub kind_of_opcode : (k : OpKind) → kind_at (opcode_of k) ≡ Some k
unfolding kind_at opcode_of
kind_of_opcode (Binary op Bits64 Immediate) = (operation_own op).0.0
kind_of_opcode (Binary op Bits64 Register) = (operation_own op).0.1
kind_of_opcode (Binary op Bits32 Immediate) = (operation_own op).1.0
kind_of_opcode (Binary op Bits32 Register) = (operation_own op).1.1
kind_of_opcode (Negate Bits64) = refl
kind_of_opcode (Negate Bits32) = refl
kind_of_opcode (JumpIf when Immediate) = (jump_own when).0
kind_of_opcode (JumpIf when Register) = (jump_own when).1
kind_of_opcode (Load size) = (move_own size).0
kind_of_opcode (Store size Immediate) = (move_own size).1.0
kind_of_opcode (Store size Register) = (move_own size).1.1
kind_of_opcode k = refl

-- what holds of each row holds of the row of an opcode
pub found : (P : ℕ → OpKind → Type 0) (n : ℕ) (k : OpKind) (rs : List Row) → AllByRecursion (λ (r : Row). P r.opcode r.kind) rs → kind_in n rs ≡ Some k → P n k
found P n k [] all e = absurd (cc)
found P n k (r ∷ rs) all e = go (found P n k rs all.1) (n == r.opcode) refl
  where
    go : (kind_in n rs ≡ Some k → P n k) → (b : Bool) → (n == r.opcode) ≡ b → P n k
    go rest true f =
        let same : r.opcode ≡ n = sym (eqb-true n r.opcode f) in
        let kind : r.kind ≡ k = same_Some r.kind k (rw f at e) in
        subst (λ (x : ℕ). P x k) same (subst (P r.opcode) kind all.0)
    go rest false f = rest (rw f at e)

numbers : (ks : List OpKind) → AllByRecursion (λ (r : Row). opcode_of r.kind ≡ r.opcode) (map row ks)
unfolding opcode_of
numbers [] = tt
numbers (k ∷ ks) = (refl, numbers ks)

-- the opcode that leads to a kind is the kind's
pub opcode_of_kind : (n : ℕ) (k : OpKind) → kind_at n ≡ Some k → opcode_of k ≡ n
unfolding kind_at
opcode_of_kind n k h = found (λ (m : ℕ) (kind : OpKind). opcode_of kind ≡ m) n k rows (numbers kinds) h

-- no two kinds have one opcode
pub same_kind : (a b : OpKind) → opcode_of a ≡ opcode_of b → a ≡ b
same_kind a b h = same_Some a b (sym (kind_of_opcode a) ∙ ap kind_at h ∙ kind_of_opcode b)

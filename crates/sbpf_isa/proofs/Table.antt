-- Opcodes and the rows of the table.
use Rattle.std.proofs.Common.{◌≡◌, ◌≢◌, ℕ, ◌%◌, ◌==◌, cond, Bool, true, false, List, [], ◌∷◌, Option, Some, refl, ap, sym, arith, ◌∙◌}
use Rattle.std.proofs.lemmas.Bool.Decides.{nat_tests}
use Rattle.sbpf_isa.specs.declared.rows.OpKind.{OpKind}
use Rattle.sbpf_isa.specs.Rows.{Row, kind_in, of_class}

passed_over : (n k : ℕ) (a b : Option OpKind) → n ≢ k → cond (n == k) a b ≡ b
passed_over n k a b h = grind (arith, nat_tests)

other_class : (n k class : ℕ) → n % 8 ≡ class → (k % 8 == class) ≡ false → n ≢ k
other_class n k class h e same = grind (arith, nat_tests)

one_more : (n class : ℕ) (r : Row) (few all : List Row) (b : Bool) → (r.opcode % 8 == class) ≡ b → n % 8 ≡ class
    → kind_in n few ≡ kind_in n all → kind_in n (cond b (r ∷ few) few) ≡ kind_in n (r ∷ all)
one_more n class r few all true e h same = ap (cond (n == r.opcode) (Some r.kind)) same
one_more n class r few all false e h same =
    same ∙ sym (passed_over n r.opcode (Some r.kind) (kind_in n all) (other_class n r.opcode class h e))

-- the row of an opcode is one of its class
pub in_class : (n class : ℕ) (rs : List Row) → n % 8 ≡ class → kind_in n (of_class class rs) ≡ kind_in n rs
in_class n class [] h = refl
in_class n class (r ∷ rs) h =
    one_more n class r (of_class class rs) rs (r.opcode % 8 == class) refl h (in_class n class rs h)

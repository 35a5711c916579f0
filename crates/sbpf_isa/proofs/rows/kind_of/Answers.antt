use Rattle.std.proofs.Common.{◌≡◌, ◌∙◌, None, arith}
use Rattle.std.proofs.lemmas.Bool.Decides.{nat_tests}
use Rattle.sbpf_isa.specs.Rows.{kind_at, kind_in, of_class, rows}
use Rattle.sbpf_isa.proofs.Table.{in_class}
use Rattle.sbpf_isa.proofs.rows.kind_of.Goals as goal

pub returns-in_default-opcode : goal.returns-in_default-opcode
unfolding kind_at
returns-in_default-opcode c = let none : None ≡ kind_in c.args.opcode (of_class 0 rows) = grind (arith, nat_tests) in none ∙ in_class c.args.opcode 0 rows c.in-0.is

pub returns-in_default-opcode-2 : goal.returns-in_default-opcode-2
unfolding kind_at
returns-in_default-opcode-2 c = let none : None ≡ kind_in c.args.opcode (of_class 1 rows) = grind (arith, nat_tests) in none ∙ in_class c.args.opcode 1 rows c.in-1.is

pub returns-in_default-opcode-3 : goal.returns-in_default-opcode-3
unfolding kind_at
returns-in_default-opcode-3 c = let none : None ≡ kind_in c.args.opcode (of_class 2 rows) = grind (arith, nat_tests) in none ∙ in_class c.args.opcode 2 rows c.in-2.is

pub returns-in_default-opcode-4 : goal.returns-in_default-opcode-4
unfolding kind_at
returns-in_default-opcode-4 c = let none : None ≡ kind_in c.args.opcode (of_class 3 rows) = grind (arith, nat_tests) in none ∙ in_class c.args.opcode 3 rows c.in-3.is

pub returns-in_default-opcode-5 : goal.returns-in_default-opcode-5
unfolding kind_at
returns-in_default-opcode-5 c = let none : None ≡ kind_in c.args.opcode (of_class 4 rows) = grind (arith, nat_tests) in none ∙ in_class c.args.opcode 4 rows c.in-4.is

pub returns-in_default-opcode-6 : goal.returns-in_default-opcode-6
unfolding kind_at
returns-in_default-opcode-6 c = let none : None ≡ kind_in c.args.opcode (of_class 5 rows) = grind (arith, nat_tests) in none ∙ in_class c.args.opcode 5 rows c.in-5.is

pub returns-in_default-opcode-7 : goal.returns-in_default-opcode-7
unfolding kind_at
returns-in_default-opcode-7 c = let none : None ≡ kind_in c.args.opcode (of_class 7 rows) = grind (arith, nat_tests) in none ∙ in_class c.args.opcode 7 rows c.in-7.is

pub returns-in_default : goal.returns-in_default
unfolding kind_at
returns-in_default c = in_class c.args.opcode 6 rows (grind (arith))

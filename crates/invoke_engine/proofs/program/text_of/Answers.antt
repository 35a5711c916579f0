use Rattle.std.proofs.Common.{refl, sym, ◌∙◌}
use Rattle.hex.specs.Hex.{encode_with}
use Rattle.sol_base.specs.declared.key.TheConstants.{COMPUTE_BUDGET_PROGRAM, SYSTEM_PROGRAM}
use Rattle.sol_base.proofs.KeyLaws.{same_key-true}
use Rattle.invoke_engine.proofs.program.text_of.Goals as goal

pub returns-then-eq : goal.returns-then-eq
unfolding encode_with
returns-then-eq c = rw (same_key-true c.args.key.now SYSTEM_PROGRAM (sym c.eq.ensures ∙ c.if-eq.true)) refl

pub returns-then-eq-2 : goal.returns-then-eq-2
unfolding encode_with
returns-then-eq-2 c = rw (same_key-true c.args.key.now COMPUTE_BUDGET_PROGRAM (sym c.eq-else-eq.ensures ∙ c.if-eq-2.true)) refl

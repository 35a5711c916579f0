use Rattle.std.proofs.Common.{◌++◌, List, Option, ap, sym, ◌∙◌}
use Rattle.std.specs.Prelude.{option_to_list}
use Rattle.sol_base.specs.declared.key.Hash32.{Hash32}
use Rattle.admission.specs.Weighing.{name_in}
use Rattle.admission.proofs.SiftLaws.{names_more}
use Rattle.admission.proofs.weighing.names_in.Goals as goal

pub loop-wire-preserved : goal.loop-wire-preserved
loop-wire-preserved c =
    c.in_ok-push_name.ensures ∙ ap (λ (o : Option Hash32). c.loop-wire.names.items ++ option_to_list o) c.name_in.ensures
    ∙ ap (λ (l : List Hash32). l ++ option_to_list (name_in c.wire-item.result)) c.loop-wire.invariant
    ∙ sym (names_more name_in c.args.wires.now c.loop-wire.wire-index c.wire-item.result c.loop-wire-test.true c.wire-item.is)

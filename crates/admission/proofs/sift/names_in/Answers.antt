use Rattle.std.proofs.Common.{◌++◌, List, Option, ap, sym, ◌∙◌}
use Rattle.std.specs.Prelude.{option_to_list}
use Rattle.sol_base.specs.declared.key.Hash32.{Hash32}
use Rattle.admission.specs.Weighing.{name_of}
use Rattle.admission.proofs.SiftLaws.{names_more}
use Rattle.admission.proofs.sift.names_in.Goals as goal

pub loop-one-preserved : goal.loop-one-preserved
loop-one-preserved c =
    c.in_ok-push_name.ensures ∙ ap (λ (o : Option Hash32). c.loop-one.names.items ++ option_to_list o) c.name_of.ensures
    ∙ ap (λ (l : List Hash32). l ++ option_to_list (name_of c.one-item.result)) c.loop-one.invariant
    ∙ sym (names_more name_of c.args.batch.now c.loop-one.one-index c.one-item.result c.loop-one-test.true c.one-item.is)

use Rattle.std.proofs.Common.{arith}
use Rattle.admission.specs.Admission.{start_of}
use Rattle.admission.proofs.BatchLaws.{all_sound, parsed_count}
use Rattle.admission.proofs.WeighLaws.{are_weighed}
use Rattle.admission.proofs.batch.line_up_on.Goals as goal

pub weigh_on-requires-clause-few : goal.weigh_on-requires-clause-few
weigh_on-requires-clause-few g c =
    let count = parsed_count c.args.wires.now c.args.parsed c.requires.read in
    omega (arith, count, c.requires.few)

pub weigh_on-requires-clause-sound : goal.weigh_on-requires-clause-sound
weigh_on-requires-clause-sound g c = λ _ _. all_sound c.args.wires.now c.args.parsed c.requires.read

pub line_up_weighed-requires-clause-weighed : goal.line_up_weighed-requires-clause-weighed
line_up_weighed-requires-clause-weighed g c = are_weighed
    (start_of c.args.recent.now c.args.accounts.now c.args.limits.now) c.args.wires.now c.args.parsed
    c.in_ok-weighed.weighed c.requires.read c.in_ok-weighed.ensures

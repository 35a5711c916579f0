use Rattle.std.proofs.Common.{◌∙◌, length, map, arith}
use Rattle.message_codec.specs.Parsing.{parsed_of}
use Rattle.admission.specs.Admission.{start_of}
use Rattle.admission.proofs.BatchLaws.{all_sound, aparts, cause_count, is_listed, parsed_count, places, stand}
use Rattle.admission.proofs.WeighLaws.{are_weighed, causes_alone, standing_alone}
use Rattle.admission.proofs.batch.line_up_listed.Goals as goal

pub weigh_from-requires-clause-few : goal.weigh_from-requires-clause-few
weigh_from-requires-clause-few c =
    let count = parsed_count c.args.wires.now c.in_ok-parsed.parsed c.in_ok-parsed.ensures in
    omega (arith, count, c.requires.few)

pub weigh_from-requires-clause-sound : goal.weigh_from-requires-clause-sound
weigh_from-requires-clause-sound c = all_sound c.args.wires.now c.in_ok-parsed.parsed c.in_ok-parsed.ensures

pub admit_line-requires-clause-few : goal.admit_line-requires-clause-few
admit_line-requires-clause-few c =
    let start = start_of c.args.recent.now c.args.accounts.now c.args.limits.now in
    let wires = c.args.wires.now in
    let are = are_weighed start wires c.in_ok-parsed.parsed c.in_ok-weighed.weighed c.in_ok-parsed.ensures c.in_ok-weighed.ensures in
    let count = parsed_count wires (map parsed_of wires) are.read in
    let causes = cause_count start (map parsed_of wires) c.in_ok-standing.field-0.causes.items (c.in_ok-standing.ensures.causes ∙ causes_alone start wires c.in_ok-weighed.weighed are) in
    omega (arith, count, causes, c.requires.few)

pub admit_line-requires-clause-places : goal.admit_line-requires-clause-places
admit_line-requires-clause-places c =
    let start = start_of c.args.recent.now c.args.accounts.now c.args.limits.now in
    let wires = c.args.wires.now in
    let are = are_weighed start wires c.in_ok-parsed.parsed c.in_ok-weighed.weighed c.in_ok-parsed.ensures c.in_ok-weighed.ensures in
    places c.in_ok-standing.field-0.standing.items (length (map parsed_of wires))
    c.in_ok-standing.field-0.causes.items
    (cause_count start (map parsed_of wires) c.in_ok-standing.field-0.causes.items
    (c.in_ok-standing.ensures.causes ∙ causes_alone start wires c.in_ok-weighed.weighed are))
    (stand start wires (map parsed_of wires) c.requires.keys are.read c.in_ok-standing.field-0.standing.items
    (c.in_ok-standing.ensures.standing ∙ standing_alone start wires c.in_ok-weighed.weighed are))

pub admit_line-requires-clause-apart : goal.admit_line-requires-clause-apart
admit_line-requires-clause-apart c =
    let start = start_of c.args.recent.now c.args.accounts.now c.args.limits.now in
    let wires = c.args.wires.now in
    let are = are_weighed start wires c.in_ok-parsed.parsed c.in_ok-weighed.weighed c.in_ok-parsed.ensures c.in_ok-weighed.ensures in
    aparts c.in_ok-standing.field-0.standing.items (length (map parsed_of wires))
    (stand start wires (map parsed_of wires) c.requires.keys are.read c.in_ok-standing.field-0.standing.items
    (c.in_ok-standing.ensures.standing ∙ standing_alone start wires c.in_ok-weighed.weighed are))

pub returns : goal.returns
returns c =
    let start = start_of c.args.recent.now c.args.accounts.now c.args.limits.now in
    let wires = c.args.wires.now in
    let are = are_weighed start wires c.in_ok-parsed.parsed c.in_ok-weighed.weighed c.in_ok-parsed.ensures c.in_ok-weighed.ensures in
    is_listed start wires (map parsed_of wires) c.requires.keys are.read
    c.in_ok-standing.field-0.standing.items c.in_ok-standing.field-0.causes.items c.admit_line.result (c.in_ok-standing.ensures.standing ∙ standing_alone start wires c.in_ok-weighed.weighed are)
    (c.in_ok-standing.ensures.causes ∙ causes_alone start wires c.in_ok-weighed.weighed are) c.admit_line.ensures.order c.admit_line.ensures.refused

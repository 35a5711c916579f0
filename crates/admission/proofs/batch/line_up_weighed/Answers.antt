use Rattle.std.proofs.Common.{◌∙◌, length, map, arith}
use Rattle.message_codec.specs.Parsing.{parsed_of}
use Rattle.admission.specs.Admission.{start_of}
use Rattle.admission.proofs.BatchLaws.{aparts, cause_count, is_admitted, parsed_count, places, stand_in_line}
use Rattle.admission.proofs.WeighLaws.{causes_alone, standing_alone}
use Rattle.admission.proofs.batch.line_up_weighed.Goals as goal

pub admit_line-requires-clause-few : goal.admit_line-requires-clause-few
admit_line-requires-clause-few c =
    let start = start_of c.args.recent.now c.args.accounts.now c.args.limits.now in
    let wires = c.args.wires.now in
    let count = parsed_count wires (map parsed_of wires) c.requires.weighed.read in
    let causes = cause_count start (map parsed_of wires) c.in_ok-standing.field-0.causes.items (c.in_ok-standing.ensures.causes ∙ causes_alone start wires c.args.weighed c.requires.weighed) in
    omega (arith, count, causes, c.requires.few)

pub admit_line-requires-clause-places : goal.admit_line-requires-clause-places
admit_line-requires-clause-places c =
    let start = start_of c.args.recent.now c.args.accounts.now c.args.limits.now in
    let wires = c.args.wires.now in
    let are = c.requires.weighed in
    places c.in_ok-line.line.items (length (map parsed_of wires)) c.in_ok-standing.field-0.causes.items
    (cause_count start (map parsed_of wires) c.in_ok-standing.field-0.causes.items
    (c.in_ok-standing.ensures.causes ∙ causes_alone start wires c.args.weighed are))
    (stand_in_line start wires (map parsed_of wires) c.requires.keys are.read
    c.in_ok-standing.field-0.standing.items c.in_ok-line.line.items
    (c.in_ok-standing.ensures.standing ∙ standing_alone start wires c.args.weighed are)
    c.in_ok-line.ensures)

pub admit_line-requires-clause-apart : goal.admit_line-requires-clause-apart
admit_line-requires-clause-apart c =
    let start = start_of c.args.recent.now c.args.accounts.now c.args.limits.now in
    let wires = c.args.wires.now in
    let are = c.requires.weighed in
    aparts c.in_ok-line.line.items (length (map parsed_of wires))
    (stand_in_line start wires (map parsed_of wires) c.requires.keys are.read
    c.in_ok-standing.field-0.standing.items c.in_ok-line.line.items
    (c.in_ok-standing.ensures.standing ∙ standing_alone start wires c.args.weighed are)
    c.in_ok-line.ensures)

pub returns : goal.returns
returns c =
    let start = start_of c.args.recent.now c.args.accounts.now c.args.limits.now in
    let wires = c.args.wires.now in
    let are = c.requires.weighed in
    is_admitted start wires (map parsed_of wires) c.requires.keys are.read
    c.in_ok-standing.field-0.standing.items c.in_ok-line.line.items c.in_ok-standing.field-0.causes.items
    c.admit_line.result (c.in_ok-standing.ensures.standing ∙ standing_alone start wires c.args.weighed are)
    c.in_ok-line.ensures
    (c.in_ok-standing.ensures.causes ∙ causes_alone start wires c.args.weighed are) c.admit_line.ensures.order c.admit_line.ensures.refused

use Rattle.std.proofs.Common.{length}
use Rattle.std.specs.Prelude.{IsOk}
use Rattle.data_parts.specs.Parts.{tests_in, is_prepared}
use Rattle.data_parts.proofs.PartLaws.{prepared_are_own}
use Rattle.data_parts.proofs.range.write_range.Goals as goal

pub returns-in_err-own_on-clause-ready : goal.returns-in_err-own_on-clause-ready
returns-in_err-own_on-clause-ready c = λ prepared.
    let ok : IsOk c.own_on.result = c.own_on.ensures.ready
    (prepared_are_own c.write_within.new.pieces (tests_in is_prepared c.args.pieces.now) c.args.at
    (length c.args.bytes.now) c.write_within.ensures.prepared prepared) in
    let no = rw c.in_err-own_on.was at ok in
    absurd (cc)

use Rattle.data_parts.specs.Parts.{is_prepared}
use Rattle.data_parts.proofs.PartLaws.{tests_length}
use Rattle.data_parts.proofs.parts.Parts.len.Goals as goal

pub returns-clause-prepared : goal.returns-clause-prepared
returns-clause-prepared c =
    let same = tests_length is_prepared c.self.inside.pieces in
    cc

use Rattle.data_parts.specs.Parts.{lent_from}
use Rattle.data_parts.proofs.parts.lent_by.Given as goal

abbrev pub ghost-told_by : goal.ghost-told_by
ghost-told_by a = lent_from 0 a._from.now

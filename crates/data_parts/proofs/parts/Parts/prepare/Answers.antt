use Rattle.std.proofs.Common.{◌∙◌, ap, sym, length}
use Rattle.data_parts.proofs.parts.Parts.prepare.Goals as goal

pub invariant_of-self : goal.invariant_of-self
invariant_of-self c = (c.prepare.ensures.order, c.prepare.ensures.lent c.self.inside.lent.value c.self.invariant.1, c.self.invariant.2 ∙ ap length (sym c.prepare.ensures.bytes), c.self.invariant.3)

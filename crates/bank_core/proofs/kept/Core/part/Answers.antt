use Rattle.std.proofs.Common.{◌∙◌}
use Rattle.bank_core.proofs.Ends.{core_ends, core_outcomes}
use Rattle.bank_core.proofs.kept.Core.part.Goals as goal

pub returns-clause-outcomes : goal.returns-clause-outcomes
returns-clause-outcomes g c =
    let self = c.args.self in
    c.in_ok-outcomes.ensures ∙ core_outcomes (g.W.Work.job self.origin.value.told) self.origin.value.start
    self.rest self.table self.graph self.slots.items self.outcomes.items self.journal.items self.lawful
    self.runs self.apart c.requires

pub invariant_of-ended : goal.invariant_of-ended
invariant_of-ended g c =
    let self = c.args.self in
    record {
      ends = core_ends (g.W.Work.job self.origin.value.told) self.origin.value.start self.rest self.table
          self.graph self.slots.items self.outcomes.items self.journal.items self.lawful self.runs self.apart
          c.requires;
    }

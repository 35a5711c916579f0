-- What every call that admits a batch answers.
use Rattle.std.specs.Prelude.{◌≡◌, All}
use Rattle.admission.specs.declared.chosen.Admitted.{Admitted}
use Rattle.admission.specs.declared.chosen.InLine.{InLine}
use Rattle.admission.specs.Chosen.{IsChosen}

-- exactly what is wanted, with all that is known of the transactions that run
pub record IsAnswer (wanted answer : Admitted) : Type 0 where
  pub exact : answer ≡ wanted
  pub chosen : All IsChosen answer.order

-- what a line says, whose transactions are pointers
abbrev pub told_by : InLine → Admitted
told_by line = record { order = line.order; refused = line.refused }

-- A shared note is as good as one that is owned, so that several threads may look at it.
use denote.RattleType.{RattleType}
use denote.Param.Send.{IsSync, part_keyless}
use Rattle.proof_note.proofs.Note.TheSendSync.Send.{send}
use Rattle.proof_note.specs.contracts.Note.{the_row}

pub sync : (T : RattleType) → IsSync (the_row T)
sync T = record { shared = λ x b o κ q. part_keyless (the_row T) (send T) q x b o }

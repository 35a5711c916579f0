-- A note owns nothing, so that it may leave its thread.
use denote.RattleType.{RattleType}
use denote.Param.Send.{IsSend}
use Rattle.proof_note.specs.contracts.Note.{the_row}

pub send : (T : RattleType) → IsSend (the_row T)
send T = record { owned = λ n vs. ((λ vss. (tt, ((λ uss. (tt, tt)), tt))), tt); leaving = λ k d w. tt }

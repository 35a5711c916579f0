-- What is work for a lane.
use Rattle.std.specs.Prelude.{Bool, length, nat_lt}
use Rattle.admission.specs.declared.chosen.Chosen.{Chosen}

-- a transaction has an instruction at least
abbrev pub has_instruction : Chosen → Bool
has_instruction t = nat_lt 0 (length t.tx.message.instructions)

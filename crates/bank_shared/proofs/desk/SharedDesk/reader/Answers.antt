use Rattle.std.proofs.Common.{rules}
use Rattle.bank_shared.proofs.Moves.{splits}
use Rattle.bank_shared.proofs.desk.SharedDesk.reader.Goals as goal

pub split_seat-requires : goal.split_seat-requires
split_seat-requires g c = (search rules, search rules, splits _ _ _ _ _ _)

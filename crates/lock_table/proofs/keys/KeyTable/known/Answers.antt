use Rattle.lock_table.proofs.Tables.{has_number}
use Rattle.lock_table.proofs.keys.KeyTable.known.Goals as goal

pub unwrap-requires : goal.unwrap-requires
unwrap-requires c = has_number c.args.self.now c.args.key.now c.find.result c.requires c.find.ensures

use Rattle.bank_show.proofs.json.block_value.Goals as goal

pub entries_value-requires : goal.entries_value-requires
entries_value-requires c = rw c.as_slice.ensures c.requires

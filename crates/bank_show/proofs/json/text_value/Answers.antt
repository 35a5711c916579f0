use Rattle.bank_show.proofs.json.text_value.Goals as goal

pub unreachable-requires : goal.unreachable-requires
unreachable-requires c = absurd (c.in-Err.ensures.cases.0 c.requires)

use Rattle.bank_json.proofs.record_out.text_value.Goals as goal

pub returns-in-Err : goal.returns-in-Err
returns-in-Err c = absurd (c.in-Err.ensures.cases.0 c.requires)

use Rattle.format_fields.proofs.output.Sha256Output.append.Goals as goal

pub returns-clause-ok : goal.returns-clause-ok
returns-clause-ok c = record { after = λ taken h. c.update.ensures taken h }

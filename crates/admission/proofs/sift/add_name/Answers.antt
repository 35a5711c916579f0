use Rattle.status_cache.proofs.SoughtLaws.{name_added}
use Rattle.admission.proofs.sift.add_name.Goals as goal

pub returns-clause-names : goal.returns-clause-names
returns-clause-names c = name_added c.args.names.now c.insert.new.self c.args.name c.in_ok-insert.ensures.updates.0

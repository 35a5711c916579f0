use Rattle.message_codec.proofs.SaneLaws.{is_sane}
use Rattle.message_codec.proofs.sanity.sanitize.Goals as goal

pub returns-clause-sane : goal.returns-clause-sane
returns-clause-sane c = is_sane c.args.tx.now c.args.most c.first_fault.result c.first_fault.ensures

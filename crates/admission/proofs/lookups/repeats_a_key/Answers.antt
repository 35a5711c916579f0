use Rattle.std.proofs.Common.{rules}
use Rattle.admission.proofs.LookupLaws.{none_loaded}
use Rattle.admission.proofs.lookups.repeats_a_key.Goals as goal

pub returns-then-is_empty : goal.returns-then-is_empty
returns-then-is_empty c = none_loaded c.args.message.now c.args.loaded.now (c.requires.none (c.is_empty.ensures.0 (search rules))) c.requires.apart

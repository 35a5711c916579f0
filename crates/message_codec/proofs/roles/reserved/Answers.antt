use Rattle.std.proofs.Common.{rules}
use Rattle.message_codec.proofs.KeyTests.{reserved_listed}
use Rattle.message_codec.proofs.roles.reserved.Goals as goal

pub returns-then-eq-3-clause-listed : goal.returns-then-eq-3-clause-listed
returns-then-eq-3-clause-listed c = reserved_listed c.args.key.now c.if-eq-2.value (search rules)

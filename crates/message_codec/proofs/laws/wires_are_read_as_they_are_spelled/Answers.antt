use Rattle.message_codec.proofs.WireLaws.{wire_takes, wire_again}
use Rattle.message_codec.proofs.Refusals.{refused_by_bytes}
use Rattle.message_codec.proofs.laws.wires_are_read_as_they_are_spelled.Goals as goal

pub returns-clause-read : goal.returns-clause-read
returns-clause-read c = λ bytes tx are. (wire_takes bytes tx are, wire_again bytes tx)

pub returns-clause-refused : goal.returns-clause-refused
returns-clause-refused c = refused_by_bytes

use Rattle.message_codec.proofs.WireLaws.{round_trips}
use Rattle.message_codec.proofs.laws.written_wires_are_read_again.Goals as goal

pub returns : goal.returns
returns c = record { again = round_trips }

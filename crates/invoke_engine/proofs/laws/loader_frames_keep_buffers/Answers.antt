use Rattle.invoke_engine.proofs.Buffers.{loader_frame_writes}
use Rattle.invoke_engine.proofs.laws.loader_frames_keep_buffers.Goals as goal

pub returns : goal.returns
returns c = record { authority = loader_frame_writes }

-- Where the frame pointer points (sBPF).
use Rattle.std.specs.Prelude.{◌≡◌, ◌<◌, ℕ, length, slice_get, Some}
use Rattle.sbpf_memory.specs.Memory.{frame_count}
use Rattle.sbpf_machine.specs.declared.context.Context.{Context}
use Rattle.sbpf_machine.specs.declared.frames.Kept.{Kept}
use Rattle.sbpf_machine.specs.Steps.{frame_end, register}

-- r10 is the end of the active frame, and each frame that waits has kept the end of its own
pub record PointsToFrame (c : Context) : Type 0 where
  pub registers : length c.registers ≡ 11
  pub frames : length c.frames < frame_count
  pub active : register c 10 ≡ frame_end (length c.frames)
  pub kept : (k : ℕ) (frame : Kept) → slice_get c.frames k ≡ Some frame → frame.r10 ≡ frame_end k

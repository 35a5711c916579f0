use Rattle.std.proofs.Common.{◌≡◌, take, false}
use Rattle.std.specs.List.{list_any}
use Rattle.system_prog.specs.SystemProgram.{is_signature}
use Rattle.system_prog.proofs.frame.is_signed_by.Given as goal

-- none of the metas so far
abbrev pub invariant-loop-meta : goal.invariant-loop-meta
invariant-loop-meta l = list_any (is_signature l.keys l.key) (take l.meta-index l.metas) ≡ false

use Rattle.std.proofs.Common.{◌≡◌, ◌++◌, take}
use Rattle.std.specs.Prelude.{codes}
use Rattle.std.specs.List.{flat_map}
use Rattle.sys_calls.specs.Lines.{number_text}
use Rattle.sys_calls.proofs.log.append_others.Given as goal

-- those so far
abbrev pub invariant-loop-number : goal.invariant-loop-number
invariant-loop-number l = l.line.items ≡ l.fn.line.items ++ flat_map (λ number. codes ", " ++ number_text number) (take l.number-index l.others)

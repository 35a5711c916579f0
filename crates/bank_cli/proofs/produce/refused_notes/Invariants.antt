use Rattle.std.proofs.Common.{◌≡◌, take}
use Rattle.bank_cli.specs.Texts.{refused_lines}
use Rattle.bank_cli.proofs.produce.refused_notes.Given as goal

-- the lines so far
abbrev pub invariant-loop-one : goal.invariant-loop-one
invariant-loop-one l = l.notes ≡ refused_lines (take l.one-index l.refused)

use Rattle.std.proofs.Common.{◌≡◌, take}
use Rattle.command_words.specs.Answers.{printable}
use Rattle.command_words.proofs.notes.printable.Given as goal

abbrev pub invariant-loop-byte : goal.invariant-loop-byte
invariant-loop-byte l = l.out ≡ printable (take l.byte-index l.notes)

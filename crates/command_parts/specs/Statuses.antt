-- The statuses that a program ends with (the project's own).
use Rattle.std.specs.Prelude.{ℕ, Result, Ok, Err}
use Rattle.command_parts.specs.declared.delivery.Undelivered.{Undelivered}
use Rattle.command_parts.specs.declared.delivery.Undelivered.TheVariants.{SinkFailed, OutOfMemory}
use Rattle.command_parts.specs.declared.words.NoWords.{NoWords}
use Rattle.command_parts.specs.declared.words.NoWords.TheVariants.{NotText, OutOfMemory as no_memory}

-- that of the answer, 5 where a part of it was not written, and 6 where memory ran out
abbrev pub status_after : Result Unit Undelivered → ℕ → ℕ
status_after (Ok _) status = status
status_after (Err SinkFailed) status = 5
status_after (Err OutOfMemory) status = 6

-- 2 where a word is no text, and 6 where memory ran out
abbrev pub status_without_words : NoWords → ℕ
status_without_words NotText = 2
status_without_words no_memory = 6

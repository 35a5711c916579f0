-- What no word shows (the project's own).
use Rattle.std.specs.Prelude.{Bool, true, false}
use Rattle.command_words.specs.declared.fault.WordsFault.{WordsFault}
use Rattle.command_words.specs.declared.fault.WordsFault.TheVariants.{Command, Unknown, Repeated, NoValue, Valued, Surplus, Range, Path, Form, Excluded, Missing, OutOfMemory}

-- memory ran out
abbrev pub is_words_memory : WordsFault → Bool
is_words_memory Command = false
is_words_memory (Unknown _) = false
is_words_memory (Repeated _) = false
is_words_memory (NoValue _) = false
is_words_memory (Valued _) = false
is_words_memory (Surplus _) = false
is_words_memory (Range _ _ _ _) = false
is_words_memory (Path _) = false
is_words_memory (Form _ _) = false
is_words_memory (Excluded _) = false
is_words_memory (Missing _) = false
is_words_memory OutOfMemory = true

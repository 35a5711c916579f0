-- Answers of the programs' commands (the project's own).
use Rattle.std.specs.Prelude.{ℕ, List, [], ◌∷◌, ◌++◌, codes}
use Rattle.command_parts.specs.declared.answer.Answer.{Answer}

-- the output alone
abbrev pub written : List ℕ → Answer
written output = record { status = 0; output = output; notes = [] }

-- one line of a note: what is spoken of, and what is to be said
abbrev pub noted : ℕ → List ℕ → List ℕ → Answer
noted status part text =
    record { status = status; output = []; notes = part ++ (codes ": " ++ (text ++ 10 ∷ [])) }

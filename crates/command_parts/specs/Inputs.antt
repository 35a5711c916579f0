-- Inputs of the programs' commands (the project's own).
use Rattle.std.specs.Prelude.{ℕ, List, codes, Option, Some, None, Result, Ok, Err}
use Rattle.sol_io.specs.declared.fault.ReadFault.{ReadFault}
use Rattle.sol_io.specs.declared.fault.ReadFault.TheVariants.{TooLong, Failed, OutOfMemory}
use Rattle.command_parts.specs.declared.input.Given.{Given}
use Rattle.command_parts.specs.declared.input.Given.TheVariants.{Value, Nothing}
use Rattle.command_parts.specs.Answers.{noted}

-- the input, or what is answered in its place, unless memory ran out
abbrev pub given_of : Result (List ℕ) ReadFault → Option (Given (List ℕ))
given_of (Ok bytes) = Some (Value bytes)
given_of (Err TooLong) = Some (Nothing (noted 3 (codes "input") (codes "TooLong")))
given_of (Err Failed) = Some (Nothing (noted 4 (codes "input") (codes "read failed")))
given_of (Err OutOfMemory) = None

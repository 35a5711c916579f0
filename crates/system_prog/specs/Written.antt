-- Which accounts an instruction of the system program may change.
use Rattle.std.specs.Prelude.{ℕ, Bool, true, false, List, replicate, slice_set}
use Rattle.system_prog.specs.declared.instruction.Instruction.{Instruction}
use Rattle.system_prog.specs.declared.instruction.Instruction.TheVariants.{CreateAccount, Assign, Transfer, CreateAccountWithSeed, Allocate, AllocateWithSeed, AssignWithSeed, TransferWithSeed}
use Rattle.system_prog.specs.SystemProgram.{Listed, place_in}

-- the roles of the accounts that an instruction may change: two, which may be one
abbrev pub written : Instruction → ℕ × ℕ
written (CreateAccount _ _ _) = (0, 1)
written (Assign _) = (0, 0)
written (Transfer _) = (0, 1)
written (CreateAccountWithSeed _ _ _ _ _) = (0, 1)
written (Allocate _) = (0, 0)
written (AllocateWithSeed _ _ _ _) = (0, 0)
written (AssignWithSeed _ _ _) = (0, 0)
written (TransferWithSeed _ _ _) = (0, 2)

-- of so many accounts, whether each stands in one of two roles
abbrev pub flags_of : Listed → ℕ × ℕ → ℕ → List Bool
flags_of listed roles count =
    slice_set (slice_set (replicate count false) (place_in listed roles.0) true)
    (place_in listed roles.1) true

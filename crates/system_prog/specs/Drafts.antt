-- The accounts while an instruction changes some of them.
use Rattle.sol_base.specs.declared.account.Account.{Account}
use Rattle.system_prog.specs.declared.draft.Change.{Change}
use Rattle.system_prog.specs.declared.draft.Change.TheVariants.{Lamports, Owner, Bytes}

-- an account with a new value of one field
abbrev pub changed : Change → Account → Account
changed (Lamports lamports) account = record account { lamports = lamports }
changed (Owner owner) account = record account { owner = owner }
changed (Bytes bytes) account = record account { bytes = bytes }

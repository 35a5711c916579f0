-- Files whose hashes threads look at, and a chain that is opened meanwhile.
use Rattle.std.specs.Prelude.{◌≡◌, ℕ, List, [], ◌∷◌, map, Option, None, Some, if◌then◌else◌, Result, Ok, Err}
use Rattle.std.specs.Prelude.{unwrap_or}
use Rattle.std.specs.Option.{option_or}
use Rattle.std.specs.Arc.{arc_value}
use Rattle.spec_base.specs.Reading.{◌>>=◌}
use Rattle.ledger_folder.specs.declared.event.Event.{Event}
use Rattle.ledger_store.specs.declared.fault.LedgerFault.{LedgerFault}
use Rattle.ledger_store.specs.declared.fault.LedgerFault.TheVariants.{Damaged}
use Rattle.ledger_store.specs.declared.opening.Ledger.{Ledger}
use Rattle.ledger_store.specs.declared.seal.Watched.{Watched}
use Rattle.ledger_store.specs.declared.watching.Begun.{Begun}
use Rattle.ledger_store.specs.declared.watching.Opening.{Opening}
use Rattle.ledger_store.specs.Faults.{is_failed}
use Rattle.ledger_store.specs.Seal.{is_sealed, seal_at}
use Rattle.ledger_store.specs.Ahead.{seen}
use Rattle.ledger_store.specs.Reading.{IsOpen}

-- why a file is refused, if it does not end in its hash
abbrev pub unsealed_fault : Watched → Option LedgerFault
unsealed_fault file =
    let bytes : List ℕ = arc_value file.bytes in
    if is_sealed bytes then None else Some (Damaged file.name (seal_at bytes))

-- why the first of several is
abbrev pub first_unsealed : List Watched → Option LedgerFault
first_unsealed [] = None
first_unsealed (file ∷ files) = option_or (unsealed_fault file) (first_unsealed files)

-- the refusal, or else what was told
abbrev pub told_unless : {X : Type 0} → Option LedgerFault → Result X LedgerFault → Result X LedgerFault
told_unless None told = told
told_unless (Some fault) told = Err fault

-- what was told of the files, where each ends in its hash
abbrev pub settled : {X : Type 0} → List Watched → Result X LedgerFault → Result X LedgerFault
settled files told = told_unless (first_unsealed files) told

-- a file that does not end in its hash comes before another refusal, but for a failure of the folder
abbrev pub refusal : List Watched → LedgerFault → LedgerFault
refusal files fault =
    if is_failed fault then fault else unwrap_or (first_unsealed files) fault

-- the file of the full state, and the files of what the blocks behind it changed
abbrev pub seen_files : Begun → List ℕ × List (ℕ × Option (List ℕ))
seen_files begun = (arc_value begun.full.bytes, map seen begun.ahead)

-- the chain, once all threads have told
abbrev pub finished : Opening → Result Ledger LedgerFault
finished opening = settled opening.files (Ok opening.ledger)

-- and of what beginning told
abbrev pub told_of : Result Opening LedgerFault → Result Ledger LedgerFault
told_of begun = begun >>= finished

-- where it is finished, it is what opening the folder's files gives
abbrev pub IsOpening : List Event → Opening → Type 0
IsOpening events opening = (ledger : Ledger) → finished opening ≡ Ok ledger → IsOpen events ledger

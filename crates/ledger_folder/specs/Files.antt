-- What the files of a folder hold after some events, the newest of which is first. Each file stands
-- by itself.
use Rattle.std.specs.Prelude.{◌≡◌, ℕ, Bool, List, [], ◌∷◌, Option, Some, None, option_map, is_some, if◌then◌else◌}
use Rattle.ledger_folder.specs.declared.name.Name.{Name}
use Rattle.ledger_folder.specs.declared.name.Name.TheVariants.{Block}
use Rattle.ledger_folder.specs.declared.event.Event.{Event}
use Rattle.ledger_folder.specs.declared.event.Event.TheVariants.{Wrote, Synced, Spoiled, Renamed, RenameFailed, Read, Listed}
use Rattle.ledger_folder.specs.Names.{same_name, Ascends, has_slot}

-- the bytes under each name; none where there is no such file
abbrev pub Disk : Type 0
Disk = Name → Option (List ℕ)

-- what is known of a file: nothing, or what it holds
abbrev pub Known : Type 0
Known = Option (Option (List ℕ))

-- the file holds this as far as is known
abbrev pub Allows : Known → Option (List ℕ) → Type 0
Allows None found = Unit {0}
Allows (Some known) found = found ≡ known

-- what NAME.new was written with, where nothing failed since
abbrev pub written : List Event → Name → Option (List ℕ)
written [] n = None
written (Wrote m bytes ∷ events) n = if same_name m n then Some bytes else written events n
written (Spoiled m ∷ events) n = if same_name m n then None else written events n
written (Renamed m ∷ events) n = if same_name m n then None else written events n
written (RenameFailed m ∷ events) n = if same_name m n then None else written events n
written (_ ∷ events) n = written events n

-- what NAME.new is sure to hold on the disk: what was written, once it is synced
abbrev pub synced : List Event → Name → Option (List ℕ)
synced [] n = None
synced (Wrote m bytes ∷ events) n = if same_name m n then None else synced events n
synced (Synced m ∷ events) n = if same_name m n then written events n else synced events n
synced (Spoiled m ∷ events) n = if same_name m n then None else synced events n
synced (Renamed m ∷ events) n = if same_name m n then None else synced events n
synced (RenameFailed m ∷ events) n = if same_name m n then None else synced events n
synced (_ ∷ events) n = synced events n

-- what NAME then holds where NAME.new is moved there: anything where that was not synced
abbrev pub moved : List Event → Name → Known
moved events n = option_map (λ bytes. Some bytes) (synced events n)

-- what NAME holds, in a folder that was opened over these files
abbrev pub placed : Disk → List Event → Name → Known
placed start [] n = Some (start n)
placed start (Renamed m ∷ events) n =
    if same_name m n then moved events n else placed start events n
placed start (RenameFailed m ∷ events) n =
    if same_name m n then None else placed start events n
placed start (_ ∷ events) n = placed start events n

-- the slots are those whose blocks have a file
pub record Lists (disk : Disk) (slots : List ℕ) : Type 0 where
  pub ascending : Ascends slots
  pub each : (slot : ℕ) → has_slot slots slot ≡ is_some (disk (Block slot))

-- a slot is listed if its block has a file, as far as that is known
abbrev pub AllowsBlock : Known → Bool → Type 0
AllowsBlock None listed = Unit {0}
AllowsBlock (Some known) listed = listed ≡ is_some known

pub record AllowsList (files : Name → Known) (slots : List ℕ) : Type 0 where
  pub ascending : Ascends slots
  pub each : (slot : ℕ) → AllowsBlock (files (Block slot)) (has_slot slots slot)

-- what was read is what stood there
abbrev pub IsHonest : Disk → List Event → Type 0
IsHonest start [] = Unit {0}
IsHonest start (Read n found ∷ events) =
    IsHonest start events × Allows (placed start events n) found
IsHonest start (Listed slots ∷ events) =
    IsHonest start events × AllowsList (placed start events) slots
IsHonest start (_ ∷ events) = IsHonest start events

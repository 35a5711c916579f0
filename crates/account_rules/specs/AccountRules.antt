-- What the accounts of a frame keep under a stretch of its program's work (Solana; rule 2 and the
-- order are the project's own).
use Rattle.std.specs.Prelude.{◌≡◌, ℕ, ◌<◌, ◌==◌, Bool, not, ◌&&◌, ◌||◌, List, [], ◌∷◌, ◌++◌, length, map, nat_eq, nat_lt, slice_get, slice_index_or, Option, Some, None, Result, Ok, if◌then◌else◌}
use Rattle.std.specs.List.{list_any, filter_map, enumerate_from, zip}
use Rattle.std.specs.Cmp.Lexicographic.{pointwise}
use Rattle.spec_base.specs.Reading.{first_or}
use Rattle.sol_base.specs.declared.key.Key.{Key}
use Rattle.sol_base.specs.declared.account.Account.{Account}
use Rattle.sol_base.specs.declared.lock.Meta.{Meta}
use Rattle.sol_base.specs.Keys.{same_key}
use Rattle.sol_base.specs.Accounts.{empty_account, lamports_in, max_data_len}
use Rattle.sol_base.specs.Metas.{first_listings, is_listed_writable}
use Rattle.account_rules.specs.declared.rules.RuleFault.{RuleFault}
use Rattle.account_rules.specs.declared.rules.RuleFault.TheVariants.{ReadonlyChanged, ExecutableChanged, OwnerChange, ForeignDebit, ForeignData, TooLarge, Unbalanced}

-- there are as many data bytes, and none differs
abbrev pub same_data : Account → Account → Bool
same_data a b = pointwise nat_eq a.bytes b.bytes

abbrev pub same_flag : Account → Account → Bool
same_flag a b = if a.executable then b.executable else not b.executable

abbrev pub same_account : Account → Account → Bool
same_account a b =
    (a.lamports == b.lamports) && same_key a.owner b.owner && same_flag a b && same_data a b

-- a data byte is not zero
abbrev pub has_byte : Account → Bool
has_byte a = list_any (λ byte. not (byte == 0)) a.bytes

-- the program is the owner before
abbrev pub owns : Key → Account → Bool
owns program before = same_key before.owner program

-- 1. a read-only account differs
abbrev pub readonly_changed : Bool → Account → Account → Bool
readonly_changed writable before after = not writable && not (same_account before after)

-- 2. an executable account differs, or an executable flag differs
abbrev pub executable_changed : Account → Account → Bool
executable_changed before after =
    (before.executable && not (same_account before after)) || not (same_flag before after)

-- 3. the owner differs, and either the program is not the owner before or a data byte after is not
-- zero
abbrev pub owner_change : Key → Account → Account → Bool
owner_change program before after =
    not (same_key before.owner after.owner) && (not (owns program before) || has_byte after)

-- 4. the lamports fell and the program is not the owner before
abbrev pub foreign_debit : Key → Account → Account → Bool
foreign_debit program before after =
    nat_lt after.lamports before.lamports && not (owns program before)

-- 5. the data differ and the program is not the owner before
abbrev pub foreign_data : Key → Account → Account → Bool
foreign_data program before after = not (same_data before after) && not (owns program before)

-- 6. the data are longer than 10,485,760
abbrev pub too_large : Account → Bool
too_large after = nat_lt max_data_len (length after.bytes)

-- the first of rules 1 to 6 that an account at place i breaks
abbrev pub broken_rule : Key → Bool → Account → Account → ℕ → Option RuleFault
broken_rule program writable before after i =
    if readonly_changed writable before after then Some (ReadonlyChanged i) else
    if executable_changed before after then Some (ExecutableChanged i) else
    if owner_change program before after then Some (OwnerChange i) else
    if foreign_debit program before after then Some (ForeignDebit i) else
    if foreign_data program before after then Some (ForeignData i) else
    if too_large after then Some (TooLarge i) else
    None

-- one account of a frame: the place that a fault of it names, whether it is writable, and how it
-- was before and is after
abbrev pub Change : Type 0
Change = ℕ × (Bool × (Account × Account))

abbrev pub broken_by : Key → Change → Option RuleFault
broken_by program (place, (writable, (before, after))) =
    broken_rule program writable before after place

abbrev pub befores : List Change → List Account
befores changes = map (λ change. change.1.1.0) changes

abbrev pub afters : List Change → List Account
afters changes = map (λ change. change.1.1.1) changes

-- 7. the sums of lamports differ
abbrev pub unbalanced : List Account → List Account → Bool
unbalanced before after = not (lamports_in before == lamports_in after)

-- the broken rules: of each account in order the first of rules 1 to 6, and rule 7 last
abbrev pub broken_rules : Key → List Change → List RuleFault
broken_rules program changes =
    filter_map (broken_by program) changes
    ++ (if unbalanced (befores changes) (afters changes) then Unbalanced ∷ [] else [])

-- nothing, or the first of the faults
abbrev pub first_of : List RuleFault → Result (Unit {0}) RuleFault
first_of faults = first_or faults (Ok tt)

-- the accounts of lists, each named by its place in them
abbrev pub changes : List Bool → List Account → List Account → List Change
changes writable before after = enumerate_from 0 (zip writable (zip before after))

-- nothing, or the first broken rule with its place
unfoldable pub rules : Key → List Bool → List Account → List Account → Result (Unit {0}) RuleFault
rules program writable before after =
    first_of (broken_rules program (changes writable before after))

-- the account of a meta, named by the place of that meta; it is writable where one of its metas is
abbrev pub listed_change : List Meta → List Account → List Account → ℕ × Meta → Change
listed_change metas before after (at, meta) = (
  at,
  (
    is_listed_writable metas meta.index,
    (
      slice_index_or before meta.index empty_account,
      slice_index_or after meta.index
          empty_account,
    ),
  ),
)

-- the accounts of a frame, each once, in the order of their first listings
abbrev pub listed_changes : List Meta → List Account → List Account → List Change
listed_changes metas before after = map (listed_change metas before after) (first_listings metas)

-- the broken rules over single accounts of a frame
abbrev pub listed_faults : Key → List Meta → List Account → List Account → List RuleFault
listed_faults program metas before after =
    filter_map (broken_by program) (listed_changes metas before after)

-- nothing, or the first rule that the accounts of a frame break, with its place
unfoldable pub listed_rules : Key → List Meta → List Account → List Account
    → Result (Unit {0}) RuleFault
listed_rules program metas before after =
    first_of (broken_rules program (listed_changes metas before after))

-- one flag and one account after for each account before
pub record AreParallel (flags : List Bool) (before after : List Account) : Type 0 where
  pub marks : length flags ≡ length before
  pub count : length after ≡ length before

-- one flag for each of 256 places, as a test says
abbrev pub AreFlagsOf : (ℕ → Bool) → List Bool → Type 0
AreFlagsOf test flags = (place : ℕ) → place < 256 → slice_get flags place ≡ Some (test place)

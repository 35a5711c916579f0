-- The places that faults of the account rules name.
use Rattle.std.proofs.Common.{◌<◌, ℕ, Bool, true, false, List, [], ◌∷◌, ◌++◌, length, map, Option, Some, None, if◌then◌else◌}
use Rattle.std.specs.Prelude.{IfErr, IfSome}
use Rattle.std.specs.List.{AllByRecursion, cons_option, filter_map}
use Rattle.sol_base.specs.declared.key.Key.{Key}
use Rattle.sol_base.specs.declared.account.Account.{Account}
use Rattle.sol_base.specs.declared.lock.Meta.{Meta}
use Rattle.sol_base.specs.Metas.{first_listings}
use Rattle.sol_base.proofs.Places.{StandWithin, listings_within}
use Rattle.account_rules.specs.declared.rules.RuleFault.{RuleFault}
use Rattle.account_rules.specs.declared.rules.RuleFault.TheVariants.{ReadonlyChanged, ExecutableChanged, OwnerChange, ForeignDebit, ForeignData, TooLarge, Unbalanced}
use Rattle.account_rules.specs.AccountRules.{Change, afters, befores, broken_by, broken_rule, broken_rules, first_of, listed_change, listed_changes, listed_rules, unbalanced, readonly_changed, executable_changed, owner_change, foreign_debit, foreign_data, too_large}
use Rattle.spec_base.proofs.Lists.{AllByRecursion-append}

-- a fault names one of so many places, or none
abbrev pub NamesWithin : ℕ → RuleFault → Type 0
NamesWithin count (ReadonlyChanged i) = i < count
NamesWithin count (ExecutableChanged i) = i < count
NamesWithin count (OwnerChange i) = i < count
NamesWithin count (ForeignDebit i) = i < count
NamesWithin count (ForeignData i) = i < count
NamesWithin count (TooLarge i) = i < count
NamesWithin count Unbalanced = Unit {0}

or_next : {X : Type 0} (P : X → Type 0) (test : Bool) (x : X) (rest : Option X) → P x → IfSome rest P → IfSome (if test then Some x else rest) P
or_next P true x rest h k = h
or_next P false x rest h k = k

broken_within : (count : ℕ) (program : Key) (writable : Bool) (before after : Account) (i : ℕ) → i < count → IfSome (broken_rule program writable before after i) (NamesWithin count)
broken_within count program writable before after i below =
    or_next (NamesWithin count) (readonly_changed writable before after) (ReadonlyChanged i) _ below
    (or_next (NamesWithin count) (executable_changed before after) (ExecutableChanged i) _ below
    (or_next (NamesWithin count) (owner_change program before after) (OwnerChange i) _ below
    (or_next (NamesWithin count) (foreign_debit program before after) (ForeignDebit i) _ below
    (or_next (NamesWithin count) (foreign_data program before after) (ForeignData i) _ below
    (or_next (NamesWithin count) (too_large after) (TooLarge i) None below tt)))))

one_more : {X : Type 0} (P : X → Type 0) (o : Option X) (xs : List X) → IfSome o P → AllByRecursion P xs → AllByRecursion P (cons_option o xs)
one_more P None xs h all = all
one_more P (Some x) xs h all = (h, all)

each_within : (count : ℕ) (program : Key) (changes : List Change) → StandWithin count changes → AllByRecursion (NamesWithin count) (filter_map (broken_by program) changes)
each_within count program [] all = tt
each_within count program ((i, (writable, (before, after))) ∷ changes) all =
    one_more (NamesWithin count) (broken_by program (i, (writable, (before, after)))) (filter_map (broken_by program) changes)
    (broken_within count program writable before after i all.0) (each_within count program changes all.1)

sum_within : (count : ℕ) (test : Bool) → AllByRecursion (NamesWithin count) (if test then Unbalanced ∷ [] else [])
sum_within count true = (tt, tt)
sum_within count false = tt

first_within : (P : RuleFault → Type 0) (faults : List RuleFault) → AllByRecursion P faults → IfErr (first_of faults) P
first_within P [] all = tt
first_within P (fault ∷ faults) all = all.0

changes_within : (count : ℕ) (metas : List Meta) (before after : List Account) (items : List (ℕ × Meta)) → StandWithin count items → StandWithin count (map (listed_change metas before after) items)
changes_within count metas before after [] all = tt
changes_within count metas before after ((at, meta) ∷ items) all = (all.0, changes_within count metas before after items all.1)

-- a fault of a frame's accounts names a place of its list
pub listed_within : (program : Key) (metas : List Meta) (before after : List Account) → IfErr (listed_rules program metas before after) (NamesWithin (length metas))
unfolding listed_rules
listed_within program metas before after =
    let changes : List Change = listed_changes metas before after in
    first_within (NamesWithin (length metas)) (broken_rules program changes)
    (AllByRecursion-append (NamesWithin (length metas)) (filter_map (broken_by program) changes) _
    (each_within (length metas) program changes (changes_within (length metas) metas before after (first_listings metas) (listings_within metas)))
    (sum_within (length metas) (unbalanced (befores changes) (afters changes))))

-- What the accounts of a transaction keep under an instruction of the system program.
use Rattle.std.proofs.Common.{◌≡◌, ◌≢◌, ◌⊎◌, ℕ, ◌+◌, ◌-◌, ◌<◌, ◌≤◌, ◌==◌, Bool, true, false, not, List, [], ◌∷◌, length, replicate, get_or, set, refl, sym, ap, subst, ◌∙◌, inl, inr, Some, Ok, Err, Result, arith, nat_eq, nat_lt, slice_get, get_or-set_other, get_or-set_same, if◌then◌else◌}
use Rattle.std.proofs.lemmas.Bool.{both_ways, cases_lt, ltb-false}
use Rattle.std.proofs.lemmas.Bool.Decides.{nat_tests}
use Rattle.std.proofs.lemmas.List.{length-replicate, length-set}
use Rattle.std.proofs.lemmas.List.Folds.{list_any_at}
use Rattle.std.proofs.lemmas.Option.{get_or_from_slice_get, slice_get-get_or, slice_get_past, slice_get_within}
use Rattle.spec_base.proofs.Binding.{bind_ok, ok_same}
use Rattle.sol_base.specs.declared.key.Key.{Key}
use Rattle.sol_base.specs.declared.account.Account.{Account}
use Rattle.sol_base.specs.declared.lock.Meta.{Meta}
use Rattle.sol_base.specs.Keys.{same_key}
use Rattle.sol_base.specs.Accounts.{empty_account, max_data_len, SameUnlessTouched}
use Rattle.sol_base.specs.Metas.{AreInRange, SameUnlessListed, is_listed, is_listed_writable, no_meta}
use Rattle.account_rules.specs.declared.rules.RuleFault.{RuleFault}
use Rattle.account_rules.specs.AccountRules.{listed_rules}
use Rattle.account_rules.specs.KeptAccounts.{AreKeptBy, AreForeignKept}
use Rattle.account_rules.proofs.KeptLaws.{AreKeptBy-listed_rules, AreForeignKept-listed_rules}
use Rattle.system_prog.specs.declared.fault.SystemFault.{SystemFault}
use Rattle.system_prog.specs.declared.fault.SystemFault.TheVariants.{Custom, InvalidArgument, MissingSignature, NotEnoughAccounts}
use Rattle.system_prog.specs.declared.authority.Authority.{Authority}
use Rattle.system_prog.specs.declared.authority.Authority.TheVariants.{Itself}
use Rattle.system_prog.specs.declared.instruction.Instruction.{Instruction}
use Rattle.system_prog.specs.declared.instruction.Instruction.TheVariants.{CreateAccount, Assign, Transfer, CreateAccountWithSeed, Allocate, AllocateWithSeed, AssignWithSeed, TransferWithSeed}
use Rattle.system_prog.specs.Instructions.{instruction_in}
use Rattle.system_prog.specs.SystemProgram.{Listed, account_in, allocate, allocate_with_seed, as_rule, assign, assign_with_seed, by_base, counted_row, create, create_with_seed, derived, has_data, is_taken, key_in, least_accounts, moved, pay, place_in, row, rules_kept, signs_in, system_key, system_row, transfer, transfer_with_seed, with_account}
use Rattle.system_prog.specs.Written.{flags_of, written}

abbrev Answer : Type 0
Answer = Result (List Account) SystemFault

-- ---- accounts that differ at two places at most
pub record StaysBut (one two : ℕ) (before after : List Account) : Type 0 where
  pub count : length after ≡ length before
  pub same : (place : ℕ) → place ≢ one → place ≢ two → slice_get after place ≡ slice_get before place

stays-refl : (one two : ℕ) (accounts : List Account) → StaysBut one two accounts accounts
stays-refl one two accounts = record { count = refl; same = λ place first second. refl }

stays-trans : (one two : ℕ) (a b c : List Account) → StaysBut one two a b → StaysBut one two b c → StaysBut one two a c
stays-trans one two a b c first second = record {
  count = second.count ∙ first.count;
  same = λ place off_one off_two. second.same place off_one off_two ∙ first.same place off_one off_two;
}

slice_get-set_other : (accounts : List Account) (at place : ℕ) (account : Account) → place ≢ at → slice_get (set accounts at account) place ≡ slice_get accounts place
slice_get-set_other accounts at place account differ = elim (cases_lt place (length accounts)) [
  | inl below ↦ slice_get-get_or (set accounts at account) place empty_account (rw length-set below)
      ∙ ap Some (get_or-set_other accounts at place account empty_account differ)
      ∙ sym (slice_get-get_or accounts place empty_account below)
  | inr past ↦ slice_get_past (set accounts at account) place (rw length-set past) ∙ sym (slice_get_past accounts place past)
]

-- one of the two changes
stays-set : (one two at : ℕ) (accounts : List Account) (account : Account) → (at ≡ one) ⊎ (at ≡ two) → StaysBut one two accounts (set accounts at account)
stays-set one two at accounts account (inl first) =
    record {
      count = length-set accounts at account;
      same = λ place off_one off_two. slice_get-set_other
          accounts at place account (λ here. off_one (here ∙ first));
    }
stays-set one two at accounts account (inr second) =
    record {
      count = length-set accounts at account;
      same = λ place off_one off_two. slice_get-set_other
          accounts at place account (λ here. off_two (here ∙ second));
    }

-- an answer that is given
stays-ok : (one two : ℕ) (accounts made after : List Account) → StaysBut one two accounts made → (let answer : Answer = Ok made in answer) ≡ Ok after → StaysBut one two accounts after
stays-ok one two accounts made after stays ok = subst (λ (list : List Account). StaysBut one two accounts list) (ok_same made after ok) stays

-- a test that did not refuse
not_refused_by : (test : Bool) (fault : SystemFault) (rest : Answer) (after : List Account) → (if test then Err fault else rest) ≡ Ok after → (test ≡ false) × (rest ≡ Ok after)
not_refused_by true fault rest after ok = absurd (cc)
not_refused_by false fault rest after ok = (refl, ok)

either-stays : (one two : ℕ) (test : Bool) (accounts after : List Account) (rest : Answer)
    → (rest ≡ Ok after → StaysBut one two accounts after) → (if test then Ok accounts else rest) ≡ Ok after
    → StaysBut one two accounts after
either-stays one two true accounts after rest others ok = stays-ok one two accounts accounts after (stays-refl one two accounts) ok
either-stays one two false accounts after rest others ok = others ok

choice-stays : (one two : ℕ) (test : Bool) (accounts a b : List Account) → StaysBut one two accounts a → StaysBut one two accounts b → StaysBut one two accounts (if test then a else b)
choice-stays one two true accounts a b first second = first
choice-stays one two false accounts a b first second = second

is_equal : (x y : ℕ) → y ≡ x → nat_eq x y ≡ true
is_equal x y same = grind (arith, nat_tests)

-- ---- the steps
module _ (listed : Listed) (one two : ℕ) where
  allocate-stays : (authority : Authority) (role space : ℕ) (accounts after : List Account)
      → (place_in listed role ≡ one) ⊎ (place_in listed role ≡ two)
      → allocate listed authority role space accounts ≡ Ok after → StaysBut one two accounts after
  unfolding allocate
  allocate-stays authority role space accounts after at ok =
      let account = account_in listed accounts role in
      let signed = not_refused_by (not (signs_in listed authority role)) (MissingSignature role) _ after ok in
      let free = not_refused_by (is_taken account) (Custom 0) _ after signed.1 in
      let small = not_refused_by (nat_lt max_data_len space) (Custom 3) _ after free.1 in
      stays-ok one two accounts (with_account listed accounts role
      (record account { bytes = replicate space 0 })) after
      (stays-set one two (place_in listed role) accounts (record account { bytes = replicate space 0 }) at)
      small.1

  assign-stays : (authority : Authority) (role : ℕ) (owner : Key) (accounts after : List Account)
      → (place_in listed role ≡ one) ⊎ (place_in listed role ≡ two)
      → assign listed authority role owner accounts ≡ Ok after → StaysBut one two accounts after
  unfolding assign
  assign-stays authority role owner accounts after at ok =
      let account = account_in listed accounts role in
      let owned : Account = record account { owner = owner } in
      either-stays one two (same_key account.owner owner) accounts after
      (if not (signs_in listed authority role) then Err (MissingSignature role) else Ok
      (with_account listed accounts role owned))
      (λ given. stays-ok one two accounts (with_account listed accounts role owned) after
      (stays-set one two (place_in listed role) accounts owned at)
      (not_refused_by (not (signs_in listed authority role)) (MissingSignature role)
      (Ok (with_account listed accounts role owned)) after given).1) ok

  moved-stays : (from to lamports : ℕ) (accounts : List Account)
      → (place_in listed from ≡ one) ⊎ (place_in listed from ≡ two)
      → (place_in listed to ≡ one) ⊎ (place_in listed to ≡ two)
      → StaysBut one two accounts (moved listed from to lamports accounts)
  moved-stays from to lamports accounts first second =
      let payer = account_in listed accounts from in
      let payee = account_in listed accounts to in
      let paid : Account = record payer { lamports = payer.lamports - lamports } in
      let given : Account = record payee { lamports = payee.lamports + lamports } in
      let half = with_account listed accounts from paid in
      choice-stays one two (place_in listed from == place_in listed to) accounts accounts
      (with_account listed half to given) (stays-refl one two accounts)
      (stays-trans one two accounts half (with_account listed half to given)
      (stays-set one two (place_in listed from) accounts paid first)
      (stays-set one two (place_in listed to) half given second))

  pay-stays : (from to lamports : ℕ) (accounts after : List Account)
      → (place_in listed from ≡ one) ⊎ (place_in listed from ≡ two)
      → (place_in listed to ≡ one) ⊎ (place_in listed to ≡ two)
      → pay listed from to lamports accounts ≡ Ok after → StaysBut one two accounts after
  unfolding pay
  pay-stays from to lamports accounts after first second ok =
      let payer = account_in listed accounts from in
      let empty = not_refused_by (has_data payer) InvalidArgument _ after ok in
      let rich = not_refused_by (nat_lt payer.lamports lamports) (Custom 1) _ after empty.1 in
      stays-ok one two accounts (moved listed from to lamports accounts) after (moved-stays from to lamports accounts first second) rich.1

  transfer-stays : (authority : Authority) (from to lamports : ℕ) (accounts after : List Account)
      → (place_in listed from ≡ one) ⊎ (place_in listed from ≡ two)
      → (place_in listed to ≡ one) ⊎ (place_in listed to ≡ two)
      → transfer listed authority from to lamports accounts ≡ Ok after → StaysBut one two accounts after
  unfolding transfer
  transfer-stays authority from to lamports accounts after first second ok = pay-stays from to lamports accounts
      after first second (not_refused_by (not (signs_in listed authority from)) (MissingSignature from) _ after
      ok).1

module _ (listed : Listed) where
  create-stays : (authority : Authority) (lamports space : ℕ) (owner : Key) (accounts after : List Account)
      → create listed authority lamports space owner accounts ≡ Ok after
      → StaysBut (place_in listed 0) (place_in listed 1) accounts after
  unfolding create
  create-stays authority lamports space owner accounts after ok =
      let poor = not_refused_by (not ((account_in listed accounts 1).lamports == 0)) (Custom 0) _ after ok in
      let roomy = bind_ok (allocate listed authority 1 space accounts) _ after poor.1 in
      let owned = bind_ok (assign listed authority 1 owner roomy.0) _ after roomy.2 in
      let first = allocate-stays listed (place_in listed 0) (place_in listed 1) authority 1 space accounts roomy.0 (inr refl) roomy.1 in
      let second = assign-stays listed (place_in listed 0) (place_in listed 1) authority 1 owner roomy.0 owned.0 (inr refl) owned.1 in
      let third = transfer-stays listed (place_in listed 0) (place_in listed 1) authority 0 1 lamports owned.0 after (inl refl) (inr refl) owned.2 in
      stays-trans _ _ _ _ _ first (stays-trans _ _ _ _ _ second third)

  row-stays : (instruction : Instruction) (accounts after : List Account)
      → row listed instruction accounts ≡ Ok after
      → StaysBut (place_in listed (written instruction).0) (place_in listed (written instruction).1) accounts
      after
  unfolding row create_with_seed allocate_with_seed assign_with_seed transfer_with_seed
  row-stays (CreateAccount lamports space owner) accounts after ok = create-stays Itself lamports space owner accounts after ok
  row-stays (Assign owner) accounts after ok = assign-stays listed (place_in listed 0) (place_in listed 0) Itself 0 owner accounts after (inl refl) ok
  row-stays (Transfer lamports) accounts after ok = transfer-stays listed (place_in listed 0) (place_in listed 1) Itself 0 1 lamports accounts after (inl refl) (inr refl) ok
  row-stays (CreateAccountWithSeed base seed lamports space owner) accounts after ok = create-stays
      (by_base listed 1 base) lamports space owner accounts after
      (bind_ok (derived listed 1 base seed owner) _ after ok).2
  row-stays (Allocate space) accounts after ok = allocate-stays listed (place_in listed 0) (place_in listed 0) Itself 0 space accounts after (inl refl) ok
  row-stays (AllocateWithSeed base seed space owner) accounts after ok =
      let key = bind_ok (derived listed 0 base seed owner) _ after ok in
      let roomy = bind_ok (allocate listed (by_base listed 0 base) 0 space accounts) _ after key.2 in
      stays-trans _ _ _ _ _ (allocate-stays listed (place_in listed 0) (place_in listed 0)
      (by_base listed 0 base) 0 space accounts roomy.0 (inl refl) roomy.1)
      (assign-stays listed (place_in listed 0) (place_in listed 0) (by_base listed 0 base) 0 owner roomy.0
      after (inl refl) roomy.2)
  row-stays (AssignWithSeed base seed owner) accounts after ok = assign-stays listed (place_in listed 0)
      (place_in listed 0) (by_base listed 0 base) 0 owner accounts after (inl refl)
      (bind_ok (derived listed 0 base seed owner) _ after ok).2
  row-stays (TransferWithSeed lamports seed owner) accounts after ok =
      let signed = not_refused_by (not (signs_in listed Itself 1)) (MissingSignature 1) _ after ok in
      pay-stays listed (place_in listed 0) (place_in listed 2) 0 2 lamports accounts after (inl refl) (inr refl) (bind_ok (derived listed 0 (key_in listed 1) seed owner) _ after signed.1).2

-- ---- flags
flag-set_other : (flags : List Bool) (at place : ℕ) → place ≢ at → slice_get (set flags at true) place ≡ slice_get flags place
flag-set_other flags at place differ = elim (cases_lt place (length flags)) [
  | inl below ↦ slice_get-get_or (set flags at true) place false (rw length-set below) ∙ ap Some (get_or-set_other flags at place true false differ) ∙ sym (slice_get-get_or flags place false below)
  | inr past ↦ slice_get_past (set flags at true) place (rw length-set past) ∙ sym (slice_get_past flags place past)
]

off_flag : (flags : List Bool) (at place : ℕ) → slice_get (set flags at true) place ≡ Some false → place ≢ at
off_flag flags at place clear here =
    let below : place < length (set flags at true) = slice_get_within (set flags at true) place false clear in
    let within : at < length flags = omega (arith, length-set flags at true) in
    let on : get_or (set flags at true) at false ≡ true = get_or-set_same flags at true false within in
    let read : get_or (set flags at true) place false ≡ false = get_or_from_slice_get (set flags at true) place false false clear in
    let same : get_or (set flags at true) place false ≡ get_or (set flags at true) at false = ap (λ n. get_or (set flags at true) n false) here in
    cc

-- a flag that is not set, of a list in which one was set
not_set : (flags : List Bool) (at place : ℕ) → slice_get (set flags at true) place ≡ Some false → (place ≢ at) × (slice_get flags place ≡ Some false)
not_set flags at place clear = (off_flag flags at place clear, sym (flag-set_other flags at place (off_flag flags at place clear)) ∙ clear)

pub length_flags : (listed : Listed) (roles : ℕ × ℕ) (count : ℕ) → length (flags_of listed roles count) ≡ count
length_flags listed roles count = length-set (set (replicate count false) (place_in listed roles.0) true)
    (place_in listed roles.1) true ∙ length-set (replicate count false) (place_in listed roles.0) true
    ∙ length-replicate count false

-- ---- an instruction that ended well
-- both roles are listed
roles_below : (instruction : Instruction) → ((written instruction).0 < least_accounts instruction) × ((written instruction).1 < least_accounts instruction)
roles_below (CreateAccount _ _ _) = (omega arith, omega arith)
roles_below (Assign _) = (omega arith, omega arith)
roles_below (Transfer _) = (omega arith, omega arith)
roles_below (CreateAccountWithSeed _ _ _ _ _) = (omega arith, omega arith)
roles_below (Allocate _) = (omega arith, omega arith)
roles_below (AllocateWithSeed _ _ _ _) = (omega arith, omega arith)
roles_below (AssignWithSeed _ _ _) = (omega arith, omega arith)
roles_below (TransferWithSeed _ _ _) = (omega arith, omega arith)

module _ (listed : Listed) (instruction : Instruction) (before after : List Account) (ended : counted_row listed instruction before ≡ Ok after) where
  ends : (nat_lt (length listed.metas) (least_accounts instruction) ≡ false) × (row listed instruction before ≡ Ok after)
  unfolding counted_row
  ends = not_refused_by (nat_lt (length listed.metas) (least_accounts instruction)) NotEnoughAccounts _ after ended

  pub enough : least_accounts instruction ≤ length listed.metas
  enough = ltb-false (length listed.metas) (least_accounts instruction) ends.0

  pub stays : StaysBut (place_in listed (written instruction).0) (place_in listed (written instruction).1) before after
  stays = row-stays listed instruction before after ends.1

  -- what is not listed stands in no role
  not_in_role : (role place : ℕ) → role < length listed.metas → is_listed listed.metas place ≡ false → place ≢ place_in listed role
  not_in_role role place below other here = both_ways (is_listed listed.metas place) other
      (list_any_at (λ (meta : Meta). nat_eq meta.index place) listed.metas role no_meta below
      (is_equal (place_in listed role) place here))

  pub unlisted : SameUnlessListed listed.metas before after
  unlisted place other = stays.same place
      (not_in_role (written instruction).0 place (omega (arith, enough, (roles_below instruction).0)) other)
      (not_in_role (written instruction).1 place (omega (arith, enough, (roles_below instruction).1)) other)

  pub untouched : (count : ℕ) → SameUnlessTouched (flags_of listed (written instruction) count) before after
  untouched count place clear =
      let second = not_set (set (replicate count false) (place_in listed (written instruction).0) true) (place_in listed (written instruction).1) place clear in
      let first = not_set (replicate count false) (place_in listed (written instruction).0) place second.1 in
      stays.same place first.0 second.0

rule_ok : (answer : Result (Unit {0}) RuleFault) (unit : Unit {0}) → as_rule answer ≡ Ok unit → answer ≡ Ok tt
rule_ok (Ok _) unit holds = refl
rule_ok (Err fault) unit holds = absurd (cc)

-- where a call ends well
pub record Ends (metas : List Meta) (before after : List Account) : Type 0 where
  pub count : length after ≡ length before
  pub others : SameUnlessListed metas before after
  pub unbroken : listed_rules system_key metas before after ≡ Ok tt

pub system_ends : (keys : List Key) (accounts : List Account) (metas : List Meta) (input : List ℕ) (after : List Account) → system_row keys accounts metas input ≡ Ok after → Ends metas accounts after
unfolding system_row rules_kept
system_ends keys accounts metas input after ok =
    let listed : Listed = record { keys = keys; metas = metas } in
    let read = bind_ok (instruction_in input) _ after ok in
    let ran = bind_ok (counted_row listed read.0 accounts) _ after read.2 in
    let ruled = bind_ok (as_rule (listed_rules system_key metas accounts ran.0)) _ after ran.2 in
    let ends : Ends metas accounts ran.0 = record {
      count = (stays listed read.0 accounts ran.0 ran.1).count;
      others = unlisted listed read.0 accounts ran.0 ran.1;
      unbroken = rule_ok (listed_rules system_key metas accounts ran.0) ruled.0 ruled.1;
    } in
    subst (Ends metas accounts) (ok_same ran.0 after ruled.2) ends

-- what the accounts keep
pub system_keeps : (keys : List Key) (accounts : List Account) (metas : List Meta) (input : List ℕ)
    (after : List Account) → AreInRange (length accounts) metas
    → system_row keys accounts metas input ≡ Ok after → AreKeptBy (is_listed_writable metas) accounts after
system_keeps keys accounts metas input after range ok =
    let ends = system_ends keys accounts metas input after ok in
    AreKeptBy-listed_rules system_key metas accounts after ends.count range ends.others ends.unbroken

-- and those that other programs own
pub system_foreign : (keys : List Key) (accounts : List Account) (metas : List Meta) (input : List ℕ)
    (after : List Account) → AreInRange (length accounts) metas
    → system_row keys accounts metas input ≡ Ok after → AreForeignKept (system_key ∷ []) accounts after
system_foreign keys accounts metas input after range ok =
    let ends = system_ends keys accounts metas input after ok in
    AreForeignKept-listed_rules system_key metas accounts after ends.count range ends.others ends.unbroken

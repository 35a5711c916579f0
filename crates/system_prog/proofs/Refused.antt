-- The numbers that refusals of the system program name: they fit four bytes.
use Rattle.std.proofs.Common.{◌<◌, ◌^◌, ◌==◌, ℕ, Bool, true, false, not, List, length, Result, Ok, Err, lit<, if◌then◌else◌}
use Rattle.std.specs.Prelude.{IfErr, nat_lt}
use Rattle.std.specs.Int.{w32, w64}
use Rattle.std.specs.Str.{is_utf8}
use Rattle.spec_base.specs.Reading.{field_at, number_at}
use Rattle.spec_base.proofs.Refusing.{bind_refuses, field_refuses, if_refuses, number_refuses, ok_if_refuses, read_as_refuses}
use Rattle.sol_base.specs.declared.key.Key.{Key}
use Rattle.sol_base.specs.declared.account.Account.{Account}
use Rattle.sol_base.specs.declared.lock.Meta.{Meta}
use Rattle.sol_base.specs.declared.derived.SeedFault.{SeedFault}
use Rattle.sol_base.specs.declared.derived.SeedFault.TheVariants.{TooLong, IllegalOwner}
use Rattle.sol_base.specs.Accounts.{max_data_len}
use Rattle.sol_base.specs.DerivedKeys.{seed_key_of}
use Rattle.sol_base.specs.Keys.{same_key}
use Rattle.format_fields.specs.Fields.{key_at}
use Rattle.account_rules.specs.declared.rules.RuleFault.{RuleFault}
use Rattle.account_rules.specs.AccountRules.{listed_rules}
use Rattle.account_rules.proofs.Places.{NamesWithin, listed_within}
use Rattle.system_prog.specs.declared.fault.SystemFault.{SystemFault}
use Rattle.system_prog.specs.declared.fault.SystemFault.TheVariants.{InvalidInstruction, NotEnoughAccounts, MissingSignature, InvalidArgument, Custom, Rule, OutOfMemory as no_memory}
use Rattle.system_prog.specs.declared.authority.Authority.{Authority}
use Rattle.system_prog.specs.declared.authority.Authority.TheVariants.{Itself}
use Rattle.system_prog.specs.declared.instruction.Instruction.{Instruction}
use Rattle.system_prog.specs.declared.instruction.Instruction.TheVariants.{CreateAccount, Assign, Transfer, CreateAccountWithSeed, Allocate, AllocateWithSeed, AssignWithSeed, TransferWithSeed}
use Rattle.system_prog.specs.Instructions.{allocate_at, allocate_with_seed_at, assign_at, assign_with_seed_at, create_account_at, create_account_with_seed_at, instruction_in, invalid, tagged, text_at, transfer_at, transfer_with_seed_at}
use Rattle.system_prog.specs.SystemProgram.{Listed, account_in, allocate, allocate_with_seed, as_rule, assign, assign_with_seed, by_base, counted_row, create, create_with_seed, derived, has_data, is_taken, key_in, least_accounts, moved, ok_derived, pay, row, rules_kept, signs_in, system_key, system_row, transfer, transfer_with_seed}

-- a number that a refusal names fits four bytes; the place of a broken rule is one of so many
abbrev pub Fits : ℕ → SystemFault → Type 0
Fits count InvalidInstruction = Unit {0}
Fits count NotEnoughAccounts = Unit {0}
Fits count (MissingSignature i) = i < 2 ^ 32
Fits count InvalidArgument = Unit {0}
Fits count (Custom code) = code < 2 ^ 32
Fits count (Rule fault) = NamesWithin count fault
Fits count no_memory = Unit {0}

-- ---- the instruction
module _ (count : ℕ) where
  abbrev Fitting : {X : Type 0} → Result X SystemFault → Type 0
  Fitting r = IfErr r (Fits count)

  number_fits : (total : ℕ) (bytes : List ℕ) → Fitting (number_at invalid w64 total bytes)
  number_fits total bytes = number_refuses (Fits count) invalid w64 total bytes (λ at. tt)

  key_fits : (total : ℕ) (bytes : List ℕ) → Fitting (key_at invalid total bytes)
  key_fits total bytes = read_as_refuses (Fits count) _ (field_at invalid total 32) bytes (field_refuses (Fits count) invalid total 32 bytes (λ at. tt))

  text_fits : (total : ℕ) (bytes : List ℕ) → Fitting (text_at total bytes)
  unfolding text_at
  text_fits total bytes =
      bind_refuses (Fits count) (number_at invalid w64 total bytes) _ (number_fits total bytes)
      (λ len is. bind_refuses (Fits count) (field_at invalid total len.0 len.1) _ (field_refuses (Fits count) invalid total len.0 len.1 (λ at. tt))
      (λ text read. ok_if_refuses (Fits count) (is_utf8 text.0) InvalidInstruction text tt))

  create_account_fits : (total : ℕ) (bytes : List ℕ) → Fitting (create_account_at total bytes)
  unfolding create_account_at
  create_account_fits total bytes =
      bind_refuses (Fits count) (number_at invalid w64 total bytes) _ (number_fits total bytes)
      (λ lamports l. bind_refuses (Fits count) (number_at invalid w64 total lamports.1) _ (number_fits total lamports.1)
      (λ space s. bind_refuses (Fits count) (key_at invalid total space.1) _ (key_fits total space.1) (λ owner o. tt)))

  assign_fits : (total : ℕ) (bytes : List ℕ) → Fitting (assign_at total bytes)
  unfolding assign_at
  assign_fits total bytes = bind_refuses (Fits count) (key_at invalid total bytes) _ (key_fits total bytes) (λ owner o. tt)

  transfer_fits : (total : ℕ) (bytes : List ℕ) → Fitting (transfer_at total bytes)
  unfolding transfer_at
  transfer_fits total bytes = bind_refuses (Fits count) (number_at invalid w64 total bytes) _ (number_fits total bytes) (λ lamports l. tt)

  create_with_seed_fits : (total : ℕ) (bytes : List ℕ) → Fitting (create_account_with_seed_at total bytes)
  unfolding create_account_with_seed_at
  create_with_seed_fits total bytes =
      bind_refuses (Fits count) (key_at invalid total bytes) _ (key_fits total bytes)
      (λ base b. bind_refuses (Fits count) (text_at total base.1) _ (text_fits total base.1)
      (λ seed s. bind_refuses (Fits count) (number_at invalid w64 total seed.1) _ (number_fits total seed.1)
      (λ lamports l. bind_refuses (Fits count) (number_at invalid w64 total lamports.1) _ (number_fits total lamports.1)
      (λ space p. bind_refuses (Fits count) (key_at invalid total space.1) _ (key_fits total space.1) (λ owner o. tt)))))

  allocate_fits : (total : ℕ) (bytes : List ℕ) → Fitting (allocate_at total bytes)
  unfolding allocate_at
  allocate_fits total bytes = bind_refuses (Fits count) (number_at invalid w64 total bytes) _ (number_fits total bytes) (λ space s. tt)

  allocate_with_seed_fits : (total : ℕ) (bytes : List ℕ) → Fitting (allocate_with_seed_at total bytes)
  unfolding allocate_with_seed_at
  allocate_with_seed_fits total bytes =
      bind_refuses (Fits count) (key_at invalid total bytes) _ (key_fits total bytes)
      (λ base b. bind_refuses (Fits count) (text_at total base.1) _ (text_fits total base.1)
      (λ seed s. bind_refuses (Fits count) (number_at invalid w64 total seed.1) _ (number_fits total seed.1)
      (λ space p. bind_refuses (Fits count) (key_at invalid total space.1) _ (key_fits total space.1) (λ owner o. tt))))

  assign_with_seed_fits : (total : ℕ) (bytes : List ℕ) → Fitting (assign_with_seed_at total bytes)
  unfolding assign_with_seed_at
  assign_with_seed_fits total bytes =
      bind_refuses (Fits count) (key_at invalid total bytes) _ (key_fits total bytes)
      (λ base b. bind_refuses (Fits count) (text_at total base.1) _ (text_fits total base.1)
      (λ seed s. bind_refuses (Fits count) (key_at invalid total seed.1) _ (key_fits total seed.1) (λ owner o. tt)))

  transfer_with_seed_fits : (total : ℕ) (bytes : List ℕ) → Fitting (transfer_with_seed_at total bytes)
  unfolding transfer_with_seed_at
  transfer_with_seed_fits total bytes =
      bind_refuses (Fits count) (number_at invalid w64 total bytes) _ (number_fits total bytes)
      (λ lamports l. bind_refuses (Fits count) (text_at total lamports.1) _ (text_fits total lamports.1)
      (λ seed s. bind_refuses (Fits count) (key_at invalid total seed.1) _ (key_fits total seed.1) (λ owner o. tt)))

  either : {X : Type 0} (b : Bool) (one other : Result X SystemFault) → Fitting one → Fitting other → Fitting (if b then one else other)
  either true one other h k = h
  either false one other h k = k

  tagged_fits : (tag total : ℕ) (bytes : List ℕ) → Fitting (tagged tag total bytes)
  unfolding tagged
  tagged_fits tag total bytes =
      either (tag == 0) (create_account_at total bytes) _ (create_account_fits total bytes)
      (either (tag == 1) (assign_at total bytes) _ (assign_fits total bytes)
      (either (tag == 2) (transfer_at total bytes) _ (transfer_fits total bytes)
      (either (tag == 3) (create_account_with_seed_at total bytes) _ (create_with_seed_fits total bytes)
      (either (tag == 8) (allocate_at total bytes) _ (allocate_fits total bytes)
      (either (tag == 9) (allocate_with_seed_at total bytes) _ (allocate_with_seed_fits total bytes)
      (either (tag == 10) (assign_with_seed_at total bytes) _ (assign_with_seed_fits total bytes)
      (either (tag == 11) (transfer_with_seed_at total bytes) (Err InvalidInstruction) (transfer_with_seed_fits total bytes) tt)))))))

  instruction_fits : (input : List ℕ) → Fitting (instruction_in input)
  unfolding instruction_in
  instruction_fits input =
      bind_refuses (Fits count) (number_at invalid w32 (length input) input) _ (number_refuses (Fits count) invalid w32 (length input) input (λ at. tt))
      (λ tag is. tagged_fits tag.0 (length input) tag.1)

  -- ---- the steps
  allocating_fits : (listed : Listed) (authority : Authority) (role space : ℕ) (accounts : List Account) → role < 2 ^ 32 → Fitting (allocate listed authority role space accounts)
  unfolding allocate
  allocating_fits listed authority role space accounts small =
      if_refuses (Fits count) (not (signs_in listed authority role)) (MissingSignature role) _ small
      (if_refuses (Fits count) (is_taken (account_in listed accounts role)) (Custom 0) _ (lit< tt)
      (if_refuses (Fits count) (nat_lt max_data_len space) (Custom 3) _ (lit< tt) tt))

  assigning_fits : (listed : Listed) (authority : Authority) (role : ℕ) (owner : Key) (accounts : List Account) → role < 2 ^ 32 → Fitting (assign listed authority role owner accounts)
  unfolding assign
  assigning_fits listed authority role owner accounts small =
      either (same_key (account_in listed accounts role).owner owner) (Ok accounts) _ tt
      (if_refuses (Fits count) (not (signs_in listed authority role)) (MissingSignature role) _ small tt)

  paying_fits : (listed : Listed) (from to lamports : ℕ) (accounts : List Account) → Fitting (pay listed from to lamports accounts)
  unfolding pay
  paying_fits listed from to lamports accounts =
      if_refuses (Fits count) (has_data (account_in listed accounts from)) InvalidArgument _ tt
      (if_refuses (Fits count) (nat_lt (account_in listed accounts from).lamports lamports) (Custom 1) (Ok (moved listed from to lamports accounts)) (lit< tt) tt)

  transferring_fits : (listed : Listed) (authority : Authority) (from to lamports : ℕ) (accounts : List Account) → from < 2 ^ 32 → Fitting (transfer listed authority from to lamports accounts)
  unfolding transfer
  transferring_fits listed authority from to lamports accounts small =
      if_refuses (Fits count) (not (signs_in listed authority from)) (MissingSignature from) (pay listed from to lamports accounts) small (paying_fits listed from to lamports accounts)

  creating_fits : (listed : Listed) (authority : Authority) (lamports space : ℕ) (owner : Key) (accounts : List Account) → Fitting (create listed authority lamports space owner accounts)
  unfolding create
  creating_fits listed authority lamports space owner accounts =
      if_refuses (Fits count) (not ((account_in listed accounts 1).lamports == 0)) (Custom 0) _ (lit< tt)
      (bind_refuses (Fits count) (allocate listed authority 1 space accounts) _ (allocating_fits listed authority 1 space accounts (lit< tt))
      (λ allocated a. bind_refuses (Fits count) (assign listed authority 1 owner allocated) _ (assigning_fits listed authority 1 owner allocated (lit< tt))
      (λ assigned b. transferring_fits listed authority 0 1 lamports assigned (lit< tt))))

  by_seed : (r : Result Key SeedFault) (key : Key) → Fitting (ok_derived r key)
  by_seed (Err TooLong) key = lit< tt
  by_seed (Err IllegalOwner) key = tt
  by_seed (Ok made) key = ok_if_refuses (Fits count) (same_key made key) (Custom 5) tt (lit< tt)

  derived_fits : (listed : Listed) (role : ℕ) (base : Key) (seed : List ℕ) (owner : Key) → Fitting (derived listed role base seed owner)
  unfolding derived
  derived_fits listed role base seed owner = by_seed (seed_key_of base seed owner) (key_in listed role)

  -- ---- the rows
  row_fits : (listed : Listed) (instruction : Instruction) (accounts : List Account) → Fitting (row listed instruction accounts)
  unfolding row create_with_seed allocate_with_seed assign_with_seed transfer_with_seed
  row_fits listed (CreateAccount lamports space owner) accounts = creating_fits listed Itself lamports space owner accounts
  row_fits listed (Assign owner) accounts = assigning_fits listed Itself 0 owner accounts (lit< tt)
  row_fits listed (Transfer lamports) accounts = transferring_fits listed Itself 0 1 lamports accounts (lit< tt)
  row_fits listed (CreateAccountWithSeed base seed lamports space owner) accounts =
      bind_refuses (Fits count) (derived listed 1 base seed owner) _ (derived_fits listed 1 base seed owner) (λ found is. creating_fits listed (by_base listed 1 base) lamports space owner accounts)
  row_fits listed (Allocate space) accounts = allocating_fits listed Itself 0 space accounts (lit< tt)
  row_fits listed (AllocateWithSeed base seed space owner) accounts =
      bind_refuses (Fits count) (derived listed 0 base seed owner) _ (derived_fits listed 0 base seed owner)
      (λ found is. bind_refuses (Fits count) (allocate listed (by_base listed 0 base) 0 space accounts) _ (allocating_fits listed (by_base listed 0 base) 0 space accounts (lit< tt))
      (λ allocated a. assigning_fits listed (by_base listed 0 base) 0 owner allocated (lit< tt)))
  row_fits listed (AssignWithSeed base seed owner) accounts =
      bind_refuses (Fits count) (derived listed 0 base seed owner) _ (derived_fits listed 0 base seed owner) (λ found is. assigning_fits listed (by_base listed 0 base) 0 owner accounts (lit< tt))
  row_fits listed (TransferWithSeed lamports seed owner) accounts =
      if_refuses (Fits count) (not (signs_in listed Itself 1)) (MissingSignature 1) _ (lit< tt)
      (bind_refuses (Fits count) (derived listed 0 (key_in listed 1) seed owner) _ (derived_fits listed 0 (key_in listed 1) seed owner) (λ found is. paying_fits listed 0 2 lamports accounts))

  counted_fits : (listed : Listed) (instruction : Instruction) (accounts : List Account) → Fitting (counted_row listed instruction accounts)
  unfolding counted_row
  counted_fits listed instruction accounts =
      if_refuses (Fits count) (nat_lt (length listed.metas) (least_accounts instruction)) NotEnoughAccounts (row listed instruction accounts) tt (row_fits listed instruction accounts)

  by_rules : (r : Result (Unit {0}) RuleFault) → IfErr r (NamesWithin count) → Fitting (as_rule r)
  by_rules (Ok u) h = tt
  by_rules (Err fault) h = h

rules_fit : (metas : List Meta) (before after : List Account) → IfErr (rules_kept metas before after) (Fits (length metas))
unfolding rules_kept
rules_fit metas before after = by_rules (length metas) (listed_rules system_key metas before after) (listed_within system_key metas before after)

-- a refusal of the system program
pub system_fits : (keys : List Key) (accounts : List Account) (metas : List Meta) (input : List ℕ) → IfErr (system_row keys accounts metas input) (Fits (length metas))
unfolding system_row
system_fits keys accounts metas input =
    let count : ℕ = length metas in
    bind_refuses (Fits count) (instruction_in input) _ (instruction_fits count input)
    (λ instruction is. bind_refuses (Fits count)
    (counted_row (record { keys = keys; metas = metas }) instruction accounts) _
    (counted_fits count (record { keys = keys; metas = metas }) instruction accounts)
    (λ after made. bind_refuses (Fits count) (rules_kept metas accounts after) _ (rules_fit metas accounts after) (λ kept passed. tt)))

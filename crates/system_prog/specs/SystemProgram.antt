-- What an instruction of the system program does to the accounts of a transaction (Solana; the
-- causes of a failed derivation are the project's own).
use Rattle.std.specs.Prelude.{◌≡◌, ℕ, ◌+◌, ◌-◌, ◌==◌, ◌&&◌, ◌||◌, not, Bool, List, length, replicate, nat_lt, slice_index_or, slice_set, Result, Ok, Err, if◌then◌else◌}
use Rattle.std.specs.List.{list_any}
use Rattle.std.specs.declared.sync.Arc.{Arc}
use Rattle.std.specs.declared.alloc.Global.{Global}
use Rattle.spec_base.specs.Reading.{◌>>=◌, ok_if}
use Rattle.sol_base.specs.declared.key.Key.{Key}
use Rattle.sol_base.specs.declared.account.Account.{Account}
use Rattle.sol_base.specs.declared.lock.Meta.{Meta}
use Rattle.sol_base.specs.declared.derived.SeedFault.{SeedFault}
use Rattle.sol_base.specs.declared.derived.SeedFault.TheVariants.{TooLong, IllegalOwner}
use Rattle.sol_base.specs.Keys.{same_key}
use Rattle.sol_base.specs.Accounts.{accounts_of, empty_account, max_data_len}
use Rattle.sol_base.specs.Metas.{is_listed_signer, no_meta}
use Rattle.sol_base.specs.DerivedKeys.{seed_key_of}
use Rattle.account_rules.specs.declared.rules.RuleFault.{RuleFault}
use Rattle.account_rules.specs.AccountRules.{listed_rules}
use Rattle.system_prog.specs.declared.fault.SystemFault.{SystemFault}
use Rattle.system_prog.specs.declared.fault.SystemFault.TheVariants.{NotEnoughAccounts, MissingSignature, InvalidArgument, Custom, Rule, OutOfMemory as no_memory}
use Rattle.system_prog.specs.declared.authority.Authority.{Authority}
use Rattle.system_prog.specs.declared.authority.Authority.TheVariants.{Itself, Base}
use Rattle.system_prog.specs.declared.instruction.Instruction.{Instruction}
use Rattle.system_prog.specs.declared.instruction.Instruction.TheVariants.{CreateAccount, Assign, Transfer, CreateAccountWithSeed, Allocate, AllocateWithSeed, AssignWithSeed, TransferWithSeed}
use Rattle.system_prog.specs.Instructions.{instruction_in}

-- the system program's key is 32 zero bytes
abbrev pub system_key : Key
system_key = record { 0 = replicate 32 0 }

-- ---- the accounts in their roles
-- what an instruction is given beside the accounts: their keys, and those that it lists. A role is
-- a place in that list.
pub record Listed : Type 0 where
  pub keys : List Key
  pub metas : List Meta

-- where the account in a role stands among all accounts
abbrev pub place_in : Listed → ℕ → ℕ
place_in listed role = (slice_index_or listed.metas role no_meta).index

abbrev pub key_at : List Key → ℕ → Key
key_at keys place = slice_index_or keys place system_key

abbrev pub key_in : Listed → ℕ → Key
key_in listed role = key_at listed.keys (place_in listed role)

abbrev pub account_at : List Account → ℕ → Account
account_at accounts place = slice_index_or accounts place empty_account

abbrev pub account_in : Listed → List Account → ℕ → Account
account_in listed accounts role = account_at accounts (place_in listed role)

-- a meta has an account sign that has the key
abbrev pub is_signature : List Key → Key → Meta → Bool
is_signature keys key meta = meta.signer && same_key (key_at keys meta.index) key

-- a listed signer has the key
abbrev pub is_signed_by : Listed → Key → Bool
is_signed_by listed key = list_any (is_signature listed.keys key) listed.metas

-- An account signs for itself where one of its metas signs; for an account that is derived from a
-- base, the base signs in its place.
abbrev pub signs : Listed → Authority → ℕ → Bool
signs listed Itself place = is_listed_signer listed.metas place
signs listed (Base derived key) place =
    if place == derived then is_signed_by listed key else is_listed_signer listed.metas place

abbrev pub signs_in : Listed → Authority → ℕ → Bool
signs_in listed authority role = signs listed authority (place_in listed role)

-- the base signs for the account in a role
abbrev pub by_base : Listed → ℕ → Key → Authority
by_base listed role key = Base (place_in listed role) key

-- ---- the steps
abbrev pub has_data : Account → Bool
has_data account = not (length account.bytes == 0)

-- an account has data or an owner, so no one may allocate it
abbrev pub is_taken : Account → Bool
is_taken account = has_data account || not (same_key account.owner system_key)

-- the accounts with another one in a role
abbrev pub with_account : Listed → List Account → ℕ → Account → List Account
with_account listed accounts role account = slice_set accounts (place_in listed role) account

-- the account in the role has a key that is derived from a base, a seed and an owner
abbrev pub not_derived : SeedFault → SystemFault
not_derived TooLong = Custom 4
not_derived IllegalOwner = InvalidArgument

abbrev pub ok_derived : Result Key SeedFault → Key → Result (Unit {0}) SystemFault
ok_derived (Err fault) key = Err (not_derived fault)
ok_derived (Ok derived) key = ok_if (same_key derived key) (Custom 5) tt

unfoldable pub derived : Listed → ℕ → Key → List ℕ → Key → Result (Unit {0}) SystemFault
derived listed role base seed owner = ok_derived (seed_key_of base seed owner) (key_in listed role)

-- an account that no one has taken gets so many zero bytes
unfoldable pub allocate : Listed → Authority → ℕ → ℕ → List Account
    → Result (List Account) SystemFault
allocate listed authority role space accounts =
    let account = account_in listed accounts role in
    if not (signs_in listed authority role) then Err (MissingSignature role) else
    if is_taken account then Err (Custom 0) else
    if nat_lt max_data_len space then Err (Custom 3) else
    Ok (with_account listed accounts role (record account { bytes = replicate space 0 }))

-- an account gets an owner, which only one that is new to it has to sign
unfoldable pub assign : Listed → Authority → ℕ → Key → List Account
    → Result (List Account) SystemFault
assign listed authority role owner accounts =
    let account = account_in listed accounts role in
    if same_key account.owner owner then Ok accounts else
    if not (signs_in listed authority role) then Err (MissingSignature role) else
    Ok (with_account listed accounts role (record account { owner = owner }))

-- lamports go from one account to another; where the two are one account, nothing moves
abbrev pub moved : Listed → ℕ → ℕ → ℕ → List Account → List Account
moved listed from to lamports accounts =
    let payer = account_in listed accounts from in
    let payee = account_in listed accounts to in
    if place_in listed from == place_in listed to then accounts else
    with_account listed
    (with_account listed accounts from (record payer { lamports = payer.lamports - lamports }))
    to (record payee { lamports = payee.lamports + lamports })

-- a payment, whoever signs
unfoldable pub pay : Listed → ℕ → ℕ → ℕ → List Account → Result (List Account) SystemFault
pay listed from to lamports accounts =
    let payer = account_in listed accounts from in
    if has_data payer then Err InvalidArgument else
    if nat_lt payer.lamports lamports then Err (Custom 1) else
    Ok (moved listed from to lamports accounts)

-- a payment that the payer signs
unfoldable pub transfer : Listed → Authority → ℕ → ℕ → ℕ → List Account
    → Result (List Account) SystemFault
transfer listed authority from to lamports accounts =
    if not (signs_in listed authority from) then Err (MissingSignature from) else
    pay listed from to lamports accounts

-- an account without lamports gets room, an owner and lamports
unfoldable pub create : Listed → Authority → ℕ → ℕ → Key → List Account
    → Result (List Account) SystemFault
create listed authority lamports space owner accounts =
    if not ((account_in listed accounts 1).lamports == 0) then Err (Custom 0) else do
      allocated ← allocate listed authority 1 space accounts
      assigned ← assign listed authority 1 owner allocated
      transfer listed authority 0 1 lamports assigned

-- ---- the instructions
-- how many accounts an instruction lists at least
abbrev pub least_accounts : Instruction → ℕ
least_accounts (CreateAccount _ _ _) = 2
least_accounts (Assign _) = 1
least_accounts (Transfer _) = 2
least_accounts (CreateAccountWithSeed _ _ _ _ _) = 2
least_accounts (Allocate _) = 1
least_accounts (AllocateWithSeed _ _ _ _) = 1
least_accounts (AssignWithSeed _ _ _) = 1
least_accounts (TransferWithSeed _ _ _) = 3

-- what an instruction with a seed does: the derivation, and then the steps by the base's signature
unfoldable pub create_with_seed : Listed → Key → List ℕ → ℕ → ℕ → Key → List Account
    → Result (List Account) SystemFault
create_with_seed listed base seed lamports space owner accounts = do
  _ ← derived listed 1 base seed owner
  create listed (by_base listed 1 base) lamports space owner accounts

unfoldable pub allocate_with_seed : Listed → Key → List ℕ → ℕ → Key → List Account
    → Result (List Account) SystemFault
allocate_with_seed listed base seed space owner accounts = do
  _ ← derived listed 0 base seed owner
  allocated ← allocate listed (by_base listed 0 base) 0 space accounts
  assign listed (by_base listed 0 base) 0 owner allocated

unfoldable pub assign_with_seed : Listed → Key → List ℕ → Key → List Account
    → Result (List Account) SystemFault
assign_with_seed listed base seed owner accounts = do
  _ ← derived listed 0 base seed owner
  assign listed (by_base listed 0 base) 0 owner accounts

-- the base is listed, and signs for itself
unfoldable pub transfer_with_seed : Listed → ℕ → List ℕ → Key → List Account
    → Result (List Account) SystemFault
transfer_with_seed listed lamports seed owner accounts =
    if not (signs_in listed Itself 1) then Err (MissingSignature 1) else do
      _ ← derived listed 0 (key_in listed 1) seed owner
      pay listed 0 2 lamports accounts

-- what each instruction does, where enough accounts are listed
unfoldable pub row : Listed → Instruction → List Account → Result (List Account) SystemFault
row listed (CreateAccount lamports space owner) accounts =
    create listed Itself lamports space owner accounts
row listed (Assign owner) accounts = assign listed Itself 0 owner accounts
row listed (Transfer lamports) accounts = transfer listed Itself 0 1 lamports accounts
row listed (CreateAccountWithSeed base seed lamports space owner) accounts =
    create_with_seed listed base seed lamports space owner accounts
row listed (Allocate space) accounts = allocate listed Itself 0 space accounts
row listed (AllocateWithSeed base seed space owner) accounts =
    allocate_with_seed listed base seed space owner accounts
row listed (AssignWithSeed base seed owner) accounts =
    assign_with_seed listed base seed owner accounts
row listed (TransferWithSeed lamports seed owner) accounts =
    transfer_with_seed listed lamports seed owner accounts

unfoldable pub counted_row : Listed → Instruction → List Account → Result (List Account) SystemFault
counted_row listed instruction accounts =
    if nat_lt (length listed.metas) (least_accounts instruction) then Err NotEnoughAccounts else
    row listed instruction accounts

-- the account rules of the system program
abbrev pub as_rule : Result (Unit {0}) RuleFault → Result (Unit {0}) SystemFault
as_rule (Ok _) = Ok tt
as_rule (Err fault) = Err (Rule fault)

unfoldable pub rules_kept : List Meta → List Account → List Account → Result (Unit {0}) SystemFault
rules_kept metas before after = as_rule (listed_rules system_key metas before after)

-- the accounts after an instruction, or the first refusal
unfoldable pub system_row : List Key → List Account → List Meta → List ℕ
    → Result (List Account) SystemFault
system_row keys accounts metas input = do
  instruction ← instruction_in input
  after ← counted_row (record { keys = keys; metas = metas }) instruction accounts
  _ ← rules_kept metas accounts after
  Ok after

-- what a call answers, by what is wanted
abbrev pub AnswersSystem : Result (List Account) SystemFault
    → Result (List (Arc Account Global)) SystemFault → Type 0
AnswersSystem wanted (Ok accounts) = wanted ≡ Ok (accounts_of accounts)
AnswersSystem wanted (Err no_memory) = Unit {0}
AnswersSystem wanted (Err fault) = wanted ≡ Err fault

-- Accounts whose owners have 32 bytes each, and what native programs leave of them.
use Rattle.std.proofs.Common.{◌≡◌, ◌+◌, ◌-◌, ◌==◌, ◌≤◌, ℕ, zero, suc, Bool, true, false, not, List, [], ◌∷◌, length, take, drop, Result, Ok, Err, refl, sym, subst, arith, nat_lt}
use Rattle.std.specs.Prelude.{replicate, slice_set, if◌then◌else◌}
use Rattle.std.specs.List.{AllByRecursion, slice_index_or}
use Rattle.std.specs.Int.{w32, w64}
use Rattle.std.proofs.lemmas.Bool.Decides.{nat_tests}
use Rattle.std.proofs.lemmas.List.{length-replicate, length-take-le}
use Rattle.spec_base.specs.Reading.{field_at, number_at, place, read_as}
use Rattle.spec_base.proofs.Binding.{bind_ok}
use Rattle.format_fields.specs.Fields.{key_at}
use Rattle.sol_base.specs.declared.account.Account.{Account}
use Rattle.sol_base.specs.declared.key.Key.{Key}
use Rattle.sol_base.specs.declared.lock.Meta.{Meta}
use Rattle.sol_base.specs.Accounts.{empty_account, max_data_len}
use Rattle.sol_base.specs.Keys.{IsKey, same_key}
use Rattle.system_prog.specs.declared.fault.SystemFault.{SystemFault}
use Rattle.system_prog.specs.declared.fault.SystemFault.TheVariants.{Custom, InvalidArgument, MissingSignature, NotEnoughAccounts}
use Rattle.system_prog.specs.Instructions.{allocate_at, allocate_with_seed_at, assign_at, assign_with_seed_at, create_account_at, create_account_with_seed_at, instruction_in, invalid, tagged, text_at, transfer_at, transfer_with_seed_at}
use Rattle.system_prog.specs.SystemProgram.{Listed, account_in, allocate, allocate_with_seed, assign, assign_with_seed, counted_row, create, create_with_seed, derived, has_data, is_taken, key_in, least_accounts, moved, pay, place_in, row, rules_kept, signs_in, system_row, transfer, transfer_with_seed, with_account}
use Rattle.loader_prog.specs.declared.fault.LoaderFault.TheVariants.{NotEnoughAccounts as too_few}
use Rattle.loader_prog.specs.Requests.{accounts_needed, request_in}
use Rattle.loader_prog.specs.Loader as loader
use Rattle.account_rules.specs.declared.rules.RuleFault.{RuleFault}

-- the owner of each account has 32 bytes
abbrev pub AreOwned : List Account → Type 0
AreOwned accounts = AllByRecursion (λ account. IsKey account.owner) accounts

-- where it is well, such accounts come of it
abbrev pub LeavesOwned : {E : Type 0} → Result (List Account) E → Type 0
LeavesOwned {E = E} result = (after : List Account) → result ≡ Ok after → AreOwned after

pub empty_owned : IsKey empty_account.owner
empty_owned = length-replicate {A = ℕ} 32 0

pub set_owned : (accounts : List Account) (place : ℕ) (account : Account) → AreOwned accounts → IsKey account.owner → AreOwned (slice_set accounts place account)
set_owned [] place account owned key = tt
set_owned (a ∷ others) zero account owned key = (key, owned.1)
set_owned (a ∷ others) (suc place) account owned key = (owned.0, set_owned others place account owned.1 key)

pub owned_at : (accounts : List Account) (place : ℕ) → AreOwned accounts → IsKey (slice_index_or accounts place empty_account).owner
owned_at [] place owned = empty_owned
owned_at (a ∷ others) zero owned = owned.0
owned_at (a ∷ others) (suc place) owned = owned_at others place owned.1

same_ok : {X E : Type 0} (x y : X) → (let r : Result X E = Ok x in r) ≡ Ok y → x ≡ y
same_ok x y h = cc

-- a test that passes goes on, and one that fails refuses
unrefused : {X E : Type 0} (b : Bool) (e : E) (r : Result X E) (y : X) → (if b then Err e else r) ≡ Ok y → r ≡ Ok y
unrefused true e r y h = absurd (cc)
unrefused false e r y h = h

-- ---- the owners that instructions of the system program name
field_is_key : {E : Type 0} (truncated : ℕ → E) (total : ℕ) (bytes : List ℕ) (read : List ℕ × List ℕ) → field_at truncated total 32 bytes ≡ Ok read → length read.0 ≡ 32
unfolding field_at
field_is_key truncated total bytes read h = go (nat_lt (length bytes) 32) refl h
  where
    go : (b : Bool) → nat_lt (length bytes) 32 ≡ b → (if b then Err (truncated (place total bytes)) else Ok (take 32 bytes, drop 32 bytes)) ≡ Ok read → length read.0 ≡ 32
    go true e h = absurd (cc)
    go false e h =
        let same = same_ok (take 32 bytes, drop 32 bytes) read h in
        let long : 32 ≤ length bytes = grind (arith, nat_tests) in
        subst (λ (r : List ℕ × List ℕ). length r.0 ≡ 32) same (length-take-le 32 bytes long)

key_is_key : {E : Type 0} (truncated : ℕ → E) (total : ℕ) (bytes : List ℕ) (read : Key × List ℕ) → key_at truncated total bytes ≡ Ok read → IsKey read.0
unfolding read_as
key_is_key truncated total bytes read h =
    let a = bind_ok (field_at truncated total 32 bytes) _ read h in
    let b = field_is_key truncated total bytes a.0 a.1 in
    subst (λ (r : Key × List ℕ). IsKey r.0) (same_ok _ read a.2) b

-- ---- the system program
allocate_owned : (listed : Listed) (by : _) (role space : ℕ) (accounts : List Account) → AreOwned accounts → LeavesOwned (allocate listed by role space accounts)
unfolding allocate
allocate_owned listed by role space accounts owned after h =
    let account = account_in listed accounts role in
    let a = unrefused (not (signs_in listed by role)) (MissingSignature role) _ after h in
    let b = unrefused (is_taken account) (Custom 0) _ after a in
    let c = unrefused (nat_lt max_data_len space) (Custom 3) _ after b in
    subst AreOwned (same_ok _ after c) (set_owned accounts (place_in listed role) (record account { bytes = replicate space 0 }) owned (owned_at accounts (place_in listed role) owned))

assign_owned : (listed : Listed) (by : _) (role : ℕ) (owner : Key) (accounts : List Account) → IsKey owner → AreOwned accounts → LeavesOwned (assign listed by role owner accounts)
unfolding assign
assign_owned listed by role owner accounts key owned after h = go (same_key (account_in listed accounts role).owner owner) h
  where
    go : (b : Bool) → (if b then Ok accounts else if not (signs_in listed by role) then Err (MissingSignature role) else
        Ok (with_account listed accounts role (record (account_in listed accounts role) { owner = owner }))) ≡ Ok after → AreOwned after
    go true h = subst AreOwned (same_ok accounts after h) owned
    go false h =
        let a = unrefused (not (signs_in listed by role)) (MissingSignature role) _ after h in
        subst AreOwned (same_ok _ after a) (set_owned accounts (place_in listed role) (record (account_in listed accounts role) { owner = owner }) owned key)

moved_owned : (listed : Listed) (from to lamports : ℕ) (accounts : List Account) → AreOwned accounts → AreOwned (moved listed from to lamports accounts)
moved_owned listed from to lamports accounts owned =
    let payer = account_in listed accounts from in
    let payee = account_in listed accounts to in
    let less : Account = record payer { lamports = payer.lamports - lamports } in
    let more : Account = record payee { lamports = payee.lamports + lamports } in
    go (place_in listed from == place_in listed to) (with_account listed (with_account listed accounts from less) to more)
    (set_owned (with_account listed accounts from less) (place_in listed to) more
    (set_owned accounts (place_in listed from) less owned (owned_at accounts (place_in listed from) owned)) (owned_at accounts (place_in listed to) owned))
  where
    go : (b : Bool) (others : List Account) → AreOwned others → AreOwned (if b then accounts else others)
    go true others moved = owned
    go false others moved = moved

pay_owned : (listed : Listed) (from to lamports : ℕ) (accounts : List Account) → AreOwned accounts → LeavesOwned (pay listed from to lamports accounts)
unfolding pay
pay_owned listed from to lamports accounts owned after h =
    let payer = account_in listed accounts from in
    let a = unrefused (has_data payer) InvalidArgument _ after h in
    let b = unrefused (nat_lt payer.lamports lamports) (Custom 1) _ after a in
    subst AreOwned (same_ok _ after b) (moved_owned listed from to lamports accounts owned)

transfer_owned : (listed : Listed) (by : _) (from to lamports : ℕ) (accounts : List Account) → AreOwned accounts → LeavesOwned (transfer listed by from to lamports accounts)
unfolding transfer
transfer_owned listed by from to lamports accounts owned after h =
    pay_owned listed from to lamports accounts owned after (unrefused (not (signs_in listed by from)) (MissingSignature from) _ after h)

create_owned : (listed : Listed) (by : _) (lamports space : ℕ) (owner : Key) (accounts : List Account) → IsKey owner → AreOwned accounts
    → LeavesOwned (create listed by lamports space owner accounts)
unfolding create
create_owned listed by lamports space owner accounts key owned after h =
    let a = unrefused (not ((account_in listed accounts 1).lamports == 0)) (Custom 0) _ after h in
    let b = bind_ok (allocate listed by 1 space accounts) _ after a in
    let c = bind_ok (assign listed by 1 owner b.0) _ after b.2 in
    transfer_owned listed by 0 1 lamports c.0 (assign_owned listed by 1 owner b.0 key (allocate_owned listed by 1 space accounts owned b.0 b.1) c.0 c.1) after c.2

-- ---- its instructions
-- whatever instruction is read, it leaves such accounts
abbrev Leads : {I : Type 0} → (I → List Account → Result (List Account) SystemFault) → Result I SystemFault → Type 0
Leads {I = I} act result = (i : I) → result ≡ Ok i → (accounts : List Account) → AreOwned accounts → LeavesOwned (act i accounts)

module _ (listed : Listed) where
  create_leads : (total : ℕ) (bytes : List ℕ) → Leads (row listed) (create_account_at total bytes)
  unfolding create_account_at row
  create_leads total bytes i h accounts owned after g =
      let a = bind_ok (number_at invalid w64 total bytes) _ i h in
      let b = bind_ok (number_at invalid w64 total a.0.1) _ i a.2 in
      let c = bind_ok (key_at invalid total b.0.1) _ i b.2 in
      create_owned listed _ a.0.0 b.0.0 c.0.0 accounts (key_is_key invalid total b.0.1 c.0 c.1) owned after (subst (λ j. row listed j accounts ≡ Ok after) (sym (same_ok _ i c.2)) g)

  assign_leads : (total : ℕ) (bytes : List ℕ) → Leads (row listed) (assign_at total bytes)
  unfolding assign_at row
  assign_leads total bytes i h accounts owned after g =
      let a = bind_ok (key_at invalid total bytes) _ i h in
      assign_owned listed _ 0 a.0.0 accounts (key_is_key invalid total bytes a.0 a.1) owned after (subst (λ j. row listed j accounts ≡ Ok after) (sym (same_ok _ i a.2)) g)

  transfer_leads : (total : ℕ) (bytes : List ℕ) → Leads (row listed) (transfer_at total bytes)
  unfolding transfer_at row
  transfer_leads total bytes i h accounts owned after g =
      let a = bind_ok (number_at invalid w64 total bytes) _ i h in
      transfer_owned listed _ 0 1 a.0.0 accounts owned after (subst (λ j. row listed j accounts ≡ Ok after) (sym (same_ok _ i a.2)) g)

  create_seed_leads : (total : ℕ) (bytes : List ℕ) → Leads (row listed) (create_account_with_seed_at total bytes)
  unfolding create_account_with_seed_at row create_with_seed
  create_seed_leads total bytes i h accounts owned after g =
      let a = bind_ok (key_at invalid total bytes) _ i h in
      let b = bind_ok (text_at total a.0.1) _ i a.2 in
      let c = bind_ok (number_at invalid w64 total b.0.1) _ i b.2 in
      let d = bind_ok (number_at invalid w64 total c.0.1) _ i c.2 in
      let e = bind_ok (key_at invalid total d.0.1) _ i d.2 in
      let ran = subst (λ j. row listed j accounts ≡ Ok after) (sym (same_ok _ i e.2)) g in
      let by = bind_ok (derived listed 1 a.0.0 b.0.0 e.0.0) _ after ran in
      create_owned listed _ c.0.0 d.0.0 e.0.0 accounts (key_is_key invalid total d.0.1 e.0 e.1) owned after by.2

  allocate_leads : (total : ℕ) (bytes : List ℕ) → Leads (row listed) (allocate_at total bytes)
  unfolding allocate_at row
  allocate_leads total bytes i h accounts owned after g =
      let a = bind_ok (number_at invalid w64 total bytes) _ i h in
      allocate_owned listed _ 0 a.0.0 accounts owned after (subst (λ j. row listed j accounts ≡ Ok after) (sym (same_ok _ i a.2)) g)

  allocate_seed_leads : (total : ℕ) (bytes : List ℕ) → Leads (row listed) (allocate_with_seed_at total bytes)
  unfolding allocate_with_seed_at row allocate_with_seed
  allocate_seed_leads total bytes i h accounts owned after g =
      let a = bind_ok (key_at invalid total bytes) _ i h in
      let b = bind_ok (text_at total a.0.1) _ i a.2 in
      let c = bind_ok (number_at invalid w64 total b.0.1) _ i b.2 in
      let d = bind_ok (key_at invalid total c.0.1) _ i c.2 in
      let ran = subst (λ j. row listed j accounts ≡ Ok after) (sym (same_ok _ i d.2)) g in
      let by = bind_ok (derived listed 0 a.0.0 b.0.0 d.0.0) _ after ran in
      let got = bind_ok (allocate listed _ 0 c.0.0 accounts) _ after by.2 in
      assign_owned listed _ 0 d.0.0 got.0 (key_is_key invalid total c.0.1 d.0 d.1) (allocate_owned listed _ 0 c.0.0 accounts owned got.0 got.1) after got.2

  assign_seed_leads : (total : ℕ) (bytes : List ℕ) → Leads (row listed) (assign_with_seed_at total bytes)
  unfolding assign_with_seed_at row assign_with_seed
  assign_seed_leads total bytes i h accounts owned after g =
      let a = bind_ok (key_at invalid total bytes) _ i h in
      let b = bind_ok (text_at total a.0.1) _ i a.2 in
      let c = bind_ok (key_at invalid total b.0.1) _ i b.2 in
      let ran = subst (λ j. row listed j accounts ≡ Ok after) (sym (same_ok _ i c.2)) g in
      let by = bind_ok (derived listed 0 a.0.0 b.0.0 c.0.0) _ after ran in
      assign_owned listed _ 0 c.0.0 accounts (key_is_key invalid total b.0.1 c.0 c.1) owned after by.2

  transfer_seed_leads : (total : ℕ) (bytes : List ℕ) → Leads (row listed) (transfer_with_seed_at total bytes)
  unfolding transfer_with_seed_at row transfer_with_seed
  transfer_seed_leads total bytes i h accounts owned after g =
      let a = bind_ok (number_at invalid w64 total bytes) _ i h in
      let b = bind_ok (text_at total a.0.1) _ i a.2 in
      let c = bind_ok (key_at invalid total b.0.1) _ i b.2 in
      let ran = subst (λ j. row listed j accounts ≡ Ok after) (sym (same_ok _ i c.2)) g in
      let signed = unrefused _ _ _ after ran in
      let by = bind_ok (derived listed 0 (key_in listed 1) b.0.0 c.0.0) _ after signed in
      pay_owned listed 0 2 a.0.0 accounts owned after by.2

  one_or : {I : Type 0} (act : I → List Account → Result (List Account) SystemFault) (b : Bool) (r s : Result I SystemFault) → Leads act r → Leads act s → Leads act (if b then r else s)
  one_or act true r s one other = one
  one_or act false r s one other = other

  none_leads : {I : Type 0} (act : I → List Account → Result (List Account) SystemFault) (fault : SystemFault) → Leads act (Err fault)
  none_leads act fault i h = absurd (cc)

  tagged_leads : (tag total : ℕ) (bytes : List ℕ) → Leads (row listed) (tagged tag total bytes)
  unfolding tagged
  tagged_leads tag total bytes =
      one_or (row listed) (tag == 0) _ _ (create_leads total bytes)
      (one_or (row listed) (tag == 1) _ _ (assign_leads total bytes)
      (one_or (row listed) (tag == 2) _ _ (transfer_leads total bytes)
      (one_or (row listed) (tag == 3) _ _ (create_seed_leads total bytes)
      (one_or (row listed) (tag == 8) _ _ (allocate_leads total bytes)
      (one_or (row listed) (tag == 9) _ _ (allocate_seed_leads total bytes)
      (one_or (row listed) (tag == 10) _ _ (assign_seed_leads total bytes)
      (one_or (row listed) (tag == 11) _ _ (transfer_seed_leads total bytes) (none_leads (row listed) _))))))))

pub system_owned : (keys : List Key) (accounts : List Account) (metas : List Meta) (input : List ℕ) → AreOwned accounts → LeavesOwned (system_row keys accounts metas input)
unfolding system_row counted_row instruction_in
system_owned keys accounts metas input owned after h =
    let listed : Listed = record { keys = keys; metas = metas } in
    let a = bind_ok (instruction_in input) _ after h in
    let tag = bind_ok (number_at invalid w32 (length input) input) _ a.0 a.1 in
    let b = bind_ok (counted_row listed a.0 accounts) _ after a.2 in
    let c = bind_ok (rules_kept metas accounts b.0) _ after b.2 in
    let d = unrefused (nat_lt (length metas) (least_accounts a.0)) NotEnoughAccounts (row listed a.0 accounts) b.0 b.1 in
    subst AreOwned (same_ok b.0 after c.2) (tagged_leads listed tag.0.0 (length input) tag.0.1 a.0 tag.2 accounts owned b.0 d)

-- ---- the loader
ruled_is : (result : Result (Unit {0}) RuleFault) (done after : List Account) → loader.or_rule result done ≡ Ok after → done ≡ after
ruled_is (Ok _) done after h = cc
ruled_is (Err fault) done after h = absurd (cc)

pub loader_owned : (keys : List Key) (accounts : List Account) (metas : List Meta) (input : List ℕ) → AreOwned accounts → LeavesOwned (loader.loader_row keys accounts metas input)
unfolding loader.loader_row
loader_owned keys accounts metas input owned after h =
    let a = bind_ok (request_in input) _ after h in
    let b = unrefused (nat_lt (length metas) (accounts_needed a.0)) too_few _ after a.2 in
    let c = bind_ok (loader.data_row keys accounts metas a.0) _ after b in
    subst AreOwned (ruled_is _ (loader.with_data accounts metas c.0) after c.2)
    (set_owned accounts (loader.place_in metas 0) (loader.holding (loader.account_in accounts metas 0) c.0) owned (owned_at accounts (loader.place_in metas 0) owned))

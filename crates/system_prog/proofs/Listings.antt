-- Lists of metas that list the same accounts in the same order, with the same rights of each account.
use Rattle.std.proofs.Common.{◌≡◌, ℕ, ◌+◌, ◌-◌, replicate, set, ◌==◌, Bool, true, false, not, ◌&&◌, ◌||◌, List, [], ◌∷◌, nat_eq, nat_lt, refl, sym, ap, ◌∙◌, Ok, Err, if◌then◌else◌}
use Rattle.std.specs.List.{list_any}
use Rattle.std.proofs.lemmas.Bool.{or_left, or_right, and_from, eqb-true, eq-eqb}
use Rattle.spec_base.specs.Reading.{◌>>=◌}
use Rattle.sol_base.specs.declared.key.Key.{Key}
use Rattle.sol_base.specs.declared.account.Account.{Account}
use Rattle.sol_base.specs.declared.lock.Meta.{Meta}
use Rattle.sol_base.specs.Keys.{same_key}
use Rattle.sol_base.specs.Accounts.{max_data_len}
use Rattle.sol_base.specs.DerivedKeys.{seed_key_of}
use Rattle.sol_base.specs.Metas.{is_listed_signer, no_meta}
use Rattle.account_rules.specs.Listings.{SameListing}
use Rattle.account_rules.proofs.SameListings.{same_length, same_places, same_rules}
use Rattle.system_prog.specs.declared.fault.SystemFault.TheVariants.{Custom, InvalidArgument, MissingSignature, NotEnoughAccounts}
use Rattle.system_prog.specs.declared.authority.Authority.{Authority}
use Rattle.system_prog.specs.declared.authority.Authority.TheVariants.{Itself, Base}
use Rattle.system_prog.specs.declared.instruction.Instruction.{Instruction}
use Rattle.system_prog.specs.declared.instruction.Instruction.TheVariants.{CreateAccount, Assign, Transfer, CreateAccountWithSeed, Allocate, AllocateWithSeed, AssignWithSeed, TransferWithSeed}
use Rattle.system_prog.specs.Instructions.{instruction_in}
use Rattle.system_prog.specs.SystemProgram.{Listed, account_at, allocate, allocate_with_seed, as_rule, assign, assign_with_seed, by_base, counted_row, create, create_with_seed, derived, has_data, is_signed_by, is_taken, key_at, key_in, least_accounts, ok_derived, pay, place_in, row, rules_kept, signs, signs_in, system_key, system_row, transfer, transfer_with_seed}

-- ---- tests over metas
both : (s t : Bool) → (s ≡ true → t ≡ true) → (t ≡ true → s ≡ true) → s ≡ t
both true t to from = sym (to refl)
both false true to from = from refl
both false false to from = refl

-- an account that signs and passes a test
record Found (metas : List Meta) (test : ℕ → Bool) : Type 0 where
  place : ℕ
  signs_there : is_listed_signer metas place ≡ true
  passes : test place ≡ true

found : (metas : List Meta) (test : ℕ → Bool) → list_any (λ meta. meta.signer && test meta.index) metas ≡ true → Found metas test
found [] test some = absurd (cc)
found (meta ∷ metas) test some = by_meta meta.signer (test meta.index) refl refl some (λ later. found metas test later)
  where
    before : Found metas test → Found (meta ∷ metas) test
    before there = record { place = there.place; signs_there = or_right (nat_eq meta.index there.place && meta.signer) (is_listed_signer metas there.place) there.signs_there; passes = there.passes }

    by_meta : (s t : Bool) → meta.signer ≡ s → test meta.index ≡ t
        → ((s && t) || list_any (λ one. one.signer && test one.index) metas) ≡ true
        → (list_any (λ one. one.signer && test one.index) metas ≡ true → Found metas test)
        → Found (meta ∷ metas) test
    by_meta true true signed passed some again =
        record {
          place = meta.index;
          signs_there = or_left (nat_eq meta.index meta.index && meta.signer)
              (is_listed_signer metas meta.index)
              (and_from (nat_eq meta.index meta.index) meta.signer (eq-eqb meta.index meta.index refl) signed);
          passes = passed;
        }
    by_meta true false signed passed some again = before (again some)
    by_meta false t signed passed some again = before (again some)

any-found : (metas : List Meta) (test : ℕ → Bool) (place : ℕ) → is_listed_signer metas place ≡ true → test place ≡ true → list_any (λ meta. meta.signer && test meta.index) metas ≡ true
any-found [] test place listed passes = absurd (cc)
any-found (meta ∷ metas) test place listed passes = by_meta (nat_eq meta.index place) meta.signer refl refl listed (λ later. any-found metas test place later passes)
  where
    by_meta : (s t : Bool) → nat_eq meta.index place ≡ s → meta.signer ≡ t
        → ((s && t) || is_listed_signer metas place) ≡ true
        → (is_listed_signer metas place ≡ true → list_any (λ one. one.signer && test one.index) metas ≡ true)
        → ((meta.signer && test meta.index) || list_any (λ one. one.signer && test one.index) metas) ≡ true
    by_meta true true same signed some again = or_left (meta.signer && test meta.index)
        (list_any (λ one. one.signer && test one.index) metas)
        (and_from meta.signer (test meta.index) signed (ap test (eqb-true meta.index place same) ∙ passes))
    by_meta true false same signed some again = or_right (meta.signer && test meta.index) (list_any (λ one. one.signer && test one.index) metas) (again some)
    by_meta false t same signed some again = or_right (meta.signer && test meta.index) (list_any (λ one. one.signer && test one.index) metas) (again some)

-- ---- two lists of metas that say the same
module _ (keys : List Key) (some others : List Meta) (same : SameListing some others) where
  abbrev one : Listed
  one = record { keys = keys; metas = some }

  abbrev two : Listed
  two = record { keys = keys; metas = others }

  places : (role : ℕ) → place_in one role ≡ place_in two role
  places role = same_places some others same no_meta role

  same_key_signs : (key : Key) → is_signed_by one key ≡ is_signed_by two key
  same_key_signs key =
      let test : ℕ → Bool = λ place. same_key (key_at keys place) key in
      both (is_signed_by one key) (is_signed_by two key)
      (λ holds. let there = found some test holds in any-found others test there.place (sym (same.signer there.place) ∙ there.signs_there) there.passes)
      (λ holds. let there = found others test holds in any-found some test there.place (same.signer there.place ∙ there.signs_there) there.passes)

  same_signs : (authority : Authority) (place : ℕ) → signs one authority place ≡ signs two authority place
  same_signs Itself place = same.signer place
  same_signs (Base derived key) place = λ i. if place == derived then same_key_signs key i else same.signer place i

  same_signs_in : (authority : Authority) (role : ℕ) → signs_in one authority role ≡ signs_in two authority role
  same_signs_in authority role = ap (signs one authority) (places role) ∙ same_signs authority (place_in two role)

  same_base : (role : ℕ) (key : Key) → by_base one role key ≡ by_base two role key
  same_base role key = ap (λ place. Base place key) (places role)

  same_derived : (role : ℕ) (base : Key) (seed : List ℕ) (owner : Key) → derived one role base seed owner ≡ derived two role base seed owner
  unfolding derived
  same_derived role base seed owner = λ i. ok_derived (seed_key_of base seed owner) (key_at keys (places role i))

  same_allocate : (authority : Authority) (role space : ℕ) (accounts : List Account) → allocate one authority role space accounts ≡ allocate two authority role space accounts
  unfolding allocate
  same_allocate authority role space accounts = λ i.
      if not (same_signs_in authority role i) then Err (MissingSignature role) else
      if is_taken (account_at accounts (places role i)) then Err (Custom 0) else
      if nat_lt max_data_len space then Err (Custom 3) else
      Ok (set accounts (places role i) (record (account_at accounts (places role i)) { bytes = replicate space 0 }))

  same_assign : (authority : Authority) (role : ℕ) (owner : Key) (accounts : List Account) → assign one authority role owner accounts ≡ assign two authority role owner accounts
  unfolding assign
  same_assign authority role owner accounts = λ i.
      if same_key (account_at accounts (places role i)).owner owner then Ok accounts else
      if not (same_signs_in authority role i) then Err (MissingSignature role) else
      Ok (set accounts (places role i) (record (account_at accounts (places role i)) { owner = owner }))

  same_pay : (from to lamports : ℕ) (accounts : List Account) → pay one from to lamports accounts ≡ pay two from to lamports accounts
  unfolding pay
  same_pay from to lamports accounts = λ i.
      if has_data (account_at accounts (places from i)) then Err InvalidArgument else
      if nat_lt (account_at accounts (places from i)).lamports lamports then Err (Custom 1) else
      Ok (if places from i == places to i then accounts else
      set (set accounts (places from i)
      (record (account_at accounts (places from i))
      { lamports = (account_at accounts (places from i)).lamports - lamports })) (places to i)
      (record (account_at accounts (places to i))
      { lamports = (account_at accounts (places to i)).lamports + lamports }))

  same_transfer : (authority : Authority) (from to lamports : ℕ) (accounts : List Account) → transfer one authority from to lamports accounts ≡ transfer two authority from to lamports accounts
  unfolding transfer
  same_transfer authority from to lamports accounts = λ i. if not (same_signs_in authority from i) then Err (MissingSignature from) else same_pay from to lamports accounts i

  same_create : (authority : Authority) (lamports space : ℕ) (owner : Key) (accounts : List Account)
      → create one authority lamports space owner accounts ≡ create two authority lamports space owner accounts
  unfolding create
  same_create authority lamports space owner accounts = λ i.
      if not ((account_at accounts (places 1 i)).lamports == 0) then Err (Custom 0) else
      (same_allocate authority 1 space accounts i >>= (λ allocated. same_assign authority 1 owner allocated i >>= (λ assigned. same_transfer authority 0 1 lamports assigned i)))

  same_row : (instruction : Instruction) (accounts : List Account) → row one instruction accounts ≡ row two instruction accounts
  unfolding row create_with_seed allocate_with_seed assign_with_seed transfer_with_seed
  same_row (CreateAccount lamports space owner) accounts = same_create Itself lamports space owner accounts
  same_row (Assign owner) accounts = same_assign Itself 0 owner accounts
  same_row (Transfer lamports) accounts = same_transfer Itself 0 1 lamports accounts
  same_row (CreateAccountWithSeed base seed lamports space owner) accounts =
      (λ i. derived one 1 base seed owner >>= (λ _. create one (same_base 1 base i) lamports space owner accounts))
      ∙ (λ i. same_derived 1 base seed owner i >>= (λ _. same_create (by_base two 1 base) lamports space owner accounts i))
  same_row (Allocate space) accounts = same_allocate Itself 0 space accounts
  same_row (AllocateWithSeed base seed space owner) accounts =
      (λ i. derived one 0 base seed owner >>= (λ _. allocate one (same_base 0 base i) 0 space accounts >>= (λ allocated. assign one (same_base 0 base i) 0 owner allocated)))
      ∙ (λ i. same_derived 0 base seed owner i >>= (λ _. same_allocate (by_base two 0 base) 0 space accounts i >>= (λ allocated. same_assign (by_base two 0 base) 0 owner allocated i)))
  same_row (AssignWithSeed base seed owner) accounts =
      (λ i. derived one 0 base seed owner >>= (λ _. assign one (same_base 0 base i) 0 owner accounts))
      ∙ (λ i. same_derived 0 base seed owner i >>= (λ _. same_assign (by_base two 0 base) 0 owner accounts i))
  same_row (TransferWithSeed lamports seed owner) accounts =
      (λ i. if not (same_signs_in Itself 1 i) then Err (MissingSignature 1) else (derived one 0 (key_at keys (places 1 i)) seed owner >>= (λ _. pay one 0 2 lamports accounts)))
      ∙ (λ i. if not (signs_in two Itself 1) then Err (MissingSignature 1) else (same_derived 0 (key_in two 1) seed owner i >>= (λ _. same_pay 0 2 lamports accounts i)))

  same_counted : (instruction : Instruction) (accounts : List Account) → counted_row one instruction accounts ≡ counted_row two instruction accounts
  unfolding counted_row
  same_counted instruction accounts = λ i. if nat_lt (same_length some others same i) (least_accounts instruction) then Err NotEnoughAccounts else same_row instruction accounts i

  same_kept : (before after : List Account) → rules_kept some before after ≡ rules_kept others before after
  unfolding rules_kept
  same_kept before after = ap as_rule (same_rules some others same system_key before after)

  pub same_system : (accounts : List Account) (input : List ℕ) → system_row keys accounts some input ≡ system_row keys accounts others input
  unfolding system_row
  same_system accounts input = λ i. instruction_in input >>= (λ instruction. same_counted instruction accounts i >>= (λ after. same_kept accounts after i >>= (λ _. Ok after)))

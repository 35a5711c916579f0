-- States whose keys and owners have 32 bytes each, through the serial run of a block.
use Rattle.std.proofs.Common.{◌≡◌, ◌≤◌, ◌<◌, ℕ, zero, suc, Bool, true, false, cond, List, [], ◌∷◌, length, map, filter, inl, inr, Option, Some, None, All, refl, sym, ap, subst, ◌∙◌, arith}
use Rattle.std.specs.Prelude.{slice_get, unwrap_or}
use Rattle.std.specs.List.{AllByRecursion}
use Rattle.std.specs.BTreeMap.{insert_entry, is_at}
use Rattle.std.specs.Map.{remove_entry}
use Rattle.std.specs.Ordering.{match_ordering}
use Rattle.std.specs.FinMap.{find, get-entries}
use Rattle.std.specs.declared.cmp.Ordering.{Ordering}
use Rattle.std.specs.declared.cmp.Ordering.TheVariants.{Equal, Greater, Less}
use Rattle.std.proofs.lemmas.Bool.{cases_eq}
use Rattle.std.proofs.lemmas.List.{length-map}
use Rattle.std.proofs.lemmas.List.Elements.{All-map}
use Rattle.std.proofs.lemmas.Option.{same_Some}
use Rattle.sol_base.specs.declared.account.Account.{Account}
use Rattle.sol_base.specs.declared.key.Key.{Key}
use Rattle.sol_base.specs.declared.lock.Lock.{Lock}
use Rattle.sol_base.specs.Accounts.{IsShort, empty_account}
use Rattle.sol_base.specs.Keys.{IsKey, key_cmp}
use Rattle.sol_base.proofs.KeyLaws.{key_cmp_exact, key_cmp_total}
use Rattle.message_codec.specs.Roles.{all_keys}
use Rattle.message_codec.proofs.RoleLaws.{keys_of_locks}
use Rattle.account_store.specs.State.{State, IsState, at, entries, get, put}
use Rattle.account_store.proofs.EntryLists.{entries-insert_entry, entries-remove_entry}
use Rattle.account_store.proofs.StateLaws.{put-more, put-zero}
use Rattle.account_store.proofs.SumLaws.{under-le}
use Rattle.admission.specs.declared.chosen.Chosen.{Chosen}
use Rattle.admission.specs.Chosen.{IsChosen}
use Rattle.bank_law.specs.Job.{keys, lock_keys, written_keys}
use Rattle.bank_law.specs.Lawful.{Fits, IsLawful}
use Rattle.bank_law.specs.SerialState.{put_each, serial_state}
use Rattle.bank_law.proofs.States.{at_fits, lamports_in-map, serial_states}
use Rattle.tx_exec.specs.declared.admitted.AdmittedBlock.{AdmittedBlock}
use Rattle.tx_exec.specs.AdmittedBlock.{block_of, effects_at, job_of, locks_at}
use Rattle.tx_exec.proofs.Works.{works_are_lawful}
use Rattle.width_laws.proofs.Keyed.{AreKeys, IsKeyed}
use Rattle.width_laws.proofs.Owned.{AreOwned, empty_owned}
use Rattle.width_laws.proofs.Transactions.{written_owned}

-- its key and its owner have 32 bytes each
abbrev pub IsSized : Key × Account → Type 0
IsSized e = IsKey e.0 × IsKey e.1.owner

abbrev pub AreSized : State → Type 0
AreSized s = AllByRecursion IsSized (entries s)

-- ---- one account
inserted_sized : (es : List (Key × Account)) (key : Key) (account : Account) → AllByRecursion IsSized es → IsKey key → IsKey account.owner
    → AllByRecursion IsSized (insert_entry key_cmp es key account)
inserted_sized [] key account all is owned = ((is, owned), tt)
inserted_sized (e ∷ es) key account all is owned = by_order (key_cmp key e.0) (inserted_sized es key account all.1 is owned)
  where
    by_order : (o : Ordering) → AllByRecursion IsSized (insert_entry key_cmp es key account)
        → AllByRecursion IsSized (match_ordering o ((key, account) ∷ e ∷ es) ((e.0, account) ∷ es) (e ∷ insert_entry key_cmp es key account))
    by_order Less rest = ((is, owned), all)
    by_order Equal rest = ((all.0.0, owned), all.1)
    by_order Greater rest = (all.0, rest)

removed_sized : (test : Key → Bool) (es : List (Key × Account)) → AllByRecursion IsSized es → AllByRecursion IsSized (remove_entry test es)
removed_sized test [] all = tt
removed_sized test (e ∷ es) all = by_test (test e.0) (removed_sized test es all.1)
  where
    by_test : (b : Bool) → AllByRecursion IsSized (remove_entry test es) → AllByRecursion IsSized (cond b es (e ∷ remove_entry test es))
    by_test true rest = all.1
    by_test false rest = (all.0, rest)

pub put_sized : (s : State) (key : Key) (account : Account) → AreSized s → IsKey key → IsKey account.owner → AreSized (put s key account)
put_sized s key account all is owned =
    elim (cases_eq account.lamports 0) [
      | inl none ↦ subst AreSized (sym (put-zero s key account none))
          (subst (AllByRecursion IsSized) (sym (entries-remove_entry key_cmp_total key_cmp_exact s key)) (removed_sized (is_at (key_cmp key)) (entries s) all))
      | inr some ↦ let more : 1 ≤ account.lamports = omega (arith, some) in
          subst AreSized (sym (put-more s key account more))
          (subst (AllByRecursion IsSized) (sym (entries-insert_entry key_cmp_total s key account)) (inserted_sized (entries s) key account all is owned))
    ]

found_sized : (key : Key) (es : List (Key × Account)) (account : Account) → AllByRecursion IsSized es → find key_cmp key es ≡ Some account → IsKey account.owner
found_sized key [] account all found = absurd (cc)
found_sized key (e ∷ es) account all found = by_test (is_at (key_cmp key) e.0) (found_sized key es account all.1) found
  where
    by_test : (b : Bool) → (find key_cmp key es ≡ Some account → IsKey account.owner) → cond b (Some e.1) (find key_cmp key es) ≡ Some account → IsKey account.owner
    by_test true rest f = subst (λ (a : Account). IsKey a.owner) (same_Some e.1 account f) all.0.1
    by_test false rest f = rest f

pub owner_at : (s : State) (key : Key) → AreSized s → IsKey (at s key).owner
owner_at s key all = by_found (get s key) refl
  where
    by_found : (o : Option Account) → get s key ≡ o → IsKey (unwrap_or o empty_account).owner
    by_found None found = empty_owned
    by_found (Some account) found = found_sized key (entries s) account all (sym (get-entries s key) ∙ found)

-- ---- what a transaction writes
each_sized : (s : State) (ks : List Key) (accounts : List Account) → AreSized s → AreKeys ks → AreOwned accounts → AreSized (put_each s ks accounts)
each_sized s [] accounts all are owned = all
each_sized s (key ∷ ks) [] all are owned = all
each_sized s (key ∷ ks) (account ∷ accounts) all are owned = each_sized (put s key account) ks accounts (put_sized s key account all are.0 owned.0) are.1 owned.1

written_are_keys : (ls : List Lock) → AreKeys (lock_keys ls) → AreKeys (written_keys ls)
written_are_keys [] are = tt
written_are_keys (lock ∷ ls) are = by_write lock.write (written_are_keys ls are.1)
  where
    by_write : (b : Bool) → AreKeys (lock_keys (filter (λ lock. lock.write) ls)) → AreKeys (lock_keys (cond b (lock ∷ filter (λ lock. lock.write) ls) (filter (λ lock. lock.write) ls)))
    by_write true rest = (are.0, rest)
    by_write false rest = rest

given_owned : (s : State) (ks : List Key) → AreSized s → AreOwned (map (at s) ks)
given_owned s [] all = tt
given_owned s (key ∷ ks) all = (owner_at s key all, given_owned s ks all)

-- a position with its transaction
there : (chosen : List Chosen) (i : ℕ) → i < length chosen → All IsChosen chosen → AllByRecursion IsKeyed chosen → (t : Chosen) × (slice_get chosen i ≡ Some t) × IsChosen t × IsKeyed t
there [] i below all keyed = absurd (omega (arith, below))
there (t ∷ ts) zero below all keyed = (t, refl, all zero t (omega arith), keyed.0)
there (t ∷ ts) (suc i) below all keyed = there ts i (omega (arith, below)) (λ k d l. all (suc k) d (omega (arith, l))) keyed.1

module _ (admitted : AdmittedBlock) (all : All IsChosen admitted.chosen) (keyed : AllByRecursion IsKeyed admitted.chosen) (start : State) (is : IsState start) (sized : AreSized start) where
  lawful : IsLawful (job_of admitted)
  lawful = works_are_lawful admitted all

  values_fit : (s : State) → IsState s → (n : ℕ) → n < length admitted.chosen → Fits ((job_of admitted).locks n) (map (at s) (keys (job_of admitted) n))
  values_fit s held n l = record {
    one_each = length-map (keys (job_of admitted) n) (at s) ∙ length-map ((job_of admitted).locks n) (λ (lock : Lock). lock.key);
    short = All-map IsShort (at s) (keys (job_of admitted) n) (λ k d h. (at_fits s held _).0);
    supply =
        let a = lamports_in-map (at s) (keys (job_of admitted) n) in
        let b = under-le s (keys (job_of admitted) n) (lawful.distinct n l) in
        let c = held.fits in
        omega (arith, a, b, c);
  }

  -- what a position writes over a state
  abbrev over : State → Option Chosen → State
  over s o = put_each s (written_keys (locks_at o)) (effects_at (block_of admitted) o (map (at s) (lock_keys (locks_at o)))).written

  once : (s : State) (t : Chosen) → AreSized s → IsChosen t → IsKeyed t → Fits t.locks (map (at s) (lock_keys t.locks)) → AreSized (over s (Some t))
  once s t before chosen are fits =
      let same : all_keys t.tx.message t.loaded ≡ lock_keys t.locks = sym (ap lock_keys chosen.locked ∙ keys_of_locks t.tx.message t.loaded) in
      each_sized s (written_keys t.locks) (effects_at (block_of admitted) (Some t) (map (at s) (lock_keys t.locks))).written before
      (written_are_keys t.locks (subst AreKeys same are))
      (written_owned (block_of admitted) t (map (at s) (lock_keys t.locks)) chosen are fits (given_owned s (lock_keys t.locks) before))

  pub states_sized : (n : ℕ) → n ≤ length admitted.chosen → AreSized (serial_state (job_of admitted) start n)
  states_sized zero l = sized
  states_sized (suc n) l =
      let s : State = serial_state (job_of admitted) start n in
      let here : n < length admitted.chosen = omega (arith, l) in
      let before : AreSized s = states_sized n (omega (arith, l)) in
      let x = there admitted.chosen n here all keyed in
      let fits = values_fit s (serial_states (job_of admitted) start lawful is n (omega (arith, l))) n here in
      subst (λ (o : Option Chosen). AreSized (over s o)) (sym x.1)
      (once s x.0 before x.2 x.3 (subst (λ (o : Option Chosen). Fits (locks_at o) (map (at s) (lock_keys (locks_at o)))) x.1 fits))

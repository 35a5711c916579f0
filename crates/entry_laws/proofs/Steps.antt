-- One transaction in the serial run of a block: the accounts after it, by those before it.
use Rattle.std.proofs.Common.{◌≡◌, ◌≤◌, ◌<◌, ◌==◌, ◌∷◌, [], ℕ, suc, Bool, true, false, cond, ◌&&◌, ◌||◌, List, length, map, filter, Option, Some, All, refl, sym, ap, ap₂, subst, ◌∙◌, arith}
use Rattle.std.specs.Prelude.{slice_get}
use Rattle.std.specs.List.{IsDistinct}
use Rattle.std.proofs.lemmas.Bool.{cond-false, eqb-true, false_from_ne_true}
use Rattle.std.proofs.lemmas.List.{length-map}
use Rattle.std.proofs.lemmas.Option.{same_Some}
use Rattle.sol_base.specs.declared.key.Key.{Key}
use Rattle.sol_base.specs.declared.account.Account.{Account}
use Rattle.sol_base.specs.declared.lock.Lock.{Lock}
use Rattle.sol_base.specs.Accounts.{empty_account}
use Rattle.sol_base.proofs.KeyLaws.{same_key-self, same_key-sym, same_key-true}
use Rattle.message_codec.specs.Roles.{all_keys}
use Rattle.message_codec.proofs.RoleLaws.{keys_of_locks, lock_count}
use Rattle.account_store.specs.State.{State, IsState, at, settled}
use Rattle.bank_law.specs.Job.{beside, has_key, lock_keys, same_key, written_keys}
use Rattle.bank_law.specs.Lawful.{IsLawful, IsSettled, lent_for_writing}
use Rattle.bank_law.specs.Serial.{next, performed, result, serial}
use Rattle.bank_law.specs.SerialState.{serial_state}
use Rattle.bank_law.proofs.Keys.{map-same, written_declared}
use Rattle.bank_law.proofs.States.{at_fits, serial_states, states_run}
use Rattle.bank_law.proofs.Supply.{AreApart, apart_if}
use Rattle.admission.specs.declared.chosen.Chosen.{Chosen}
use Rattle.admission.specs.Admission.{locks_write}
use Rattle.admission.specs.Chosen.{IsChosen}
use Rattle.tx_exec.specs.declared.admitted.AdmittedBlock.{AdmittedBlock}
use Rattle.tx_exec.specs.AdmittedBlock.{block_of, effects_at, job_of, locks_at}
use Rattle.tx_exec.specs.Executing.{locks}
use Rattle.tx_exec.specs.Transaction.{transaction}
use Rattle.tx_exec.specs.TransactionLaws.{Keeps}
use Rattle.tx_exec.proofs.Keeping.{lock_writes, transaction_keeps}
use Rattle.tx_exec.proofs.Works.{works_are_lawful}

-- ---- what is written
-- what shows under a key once the values beside the write locks are written
abbrev shows : (Key → Account) → List Lock → List Account → Key → Account
shows f ls vs key = cond (has_key key (written_keys ls)) (beside key (written_keys ls) (map settled (lent_for_writing ls vs))) (f key)

-- the values beside the other locks are those of before
abbrev AreKept : (Key → Account) → List Lock → List Account → Type 0
AreKept f [] vs = Unit {0}
AreKept f (l ∷ ls) [] = Unit {0}
AreKept f (l ∷ ls) (v ∷ vs) = (l.write ≡ false → settled v ≡ f l.key) × AreKept f ls vs

-- the same with one lock more, told whether it writes
abbrev shows_by : (Key → Account) → Lock → Account → List Lock → List Account → Key → Bool → Account
shows_by f l v ls vs key b =
    cond (has_key key (lock_keys (cond b (l ∷ filter (λ lock. lock.write) ls) (filter (λ lock. lock.write) ls))))
    (beside key (lock_keys (cond b (l ∷ filter (λ lock. lock.write) ls) (filter (λ lock. lock.write) ls)))
    (map settled (cond b (v ∷ lent_for_writing ls vs) (lent_for_writing ls vs)))) (f key)

none_written : (f : Key → Account) (ls : List Lock) (vs : List Account) (key : Key) → has_key key (lock_keys ls) ≡ false → shows f ls vs key ≡ f key
none_written f ls vs key none =
    let not : has_key key (written_keys ls) ≡ false = false_from_ne_true _ (λ e. let h = written_declared ls key e in absurd (cc)) in
    cond-false (has_key key (written_keys ls)) (beside key (written_keys ls) (map settled (lent_for_writing ls vs))) (f key) not

first_shows : (f : Key → Account) (l : Lock) (v : Account) (ls : List Lock) (vs : List Account) (b : Bool)
    → l.write ≡ b → has_key l.key (lock_keys ls) ≡ false → (l.write ≡ false → settled v ≡ f l.key) → shows_by f l v ls vs l.key b ≡ settled v
first_shows f l v ls vs true e apart kept =
    ap (λ t. cond (t || has_key l.key (written_keys ls))
    (cond t (settled v) (beside l.key (written_keys ls) (map settled (lent_for_writing ls vs)))) (f l.key)) (same_key-self l.key)
first_shows f l v ls vs false e apart kept = none_written f ls vs l.key apart ∙ sym (kept e)

later_shows : (f : Key → Account) (l : Lock) (v : Account) (ls : List Lock) (vs : List Account) (key : Key) (b : Bool)
    → same_key key l.key ≡ false → shows_by f l v ls vs key b ≡ shows f ls vs key
later_shows f l v ls vs key true apart =
    ap (λ t. cond (t || has_key key (written_keys ls))
    (cond t (settled v) (beside key (written_keys ls) (map settled (lent_for_writing ls vs)))) (f key)) apart
later_shows f l v ls vs key false apart = refl

pub other_key : (k key : Key) (ks : List Key) → has_key k ks ≡ false → has_key key ks ≡ true → same_key key k ≡ false
other_key k key ks apart has = false_from_ne_true _ (λ e. let h = subst (λ (q : Key). has_key q ks ≡ true) (same_key-true key k e) has in absurd (cc))

all_show : (f : Key → Account) (ls : List Lock) (vs : List Account) → AreApart (lock_keys ls) → length vs ≡ length ls
    → AreKept f ls vs → map (shows f ls vs) (lock_keys ls) ≡ map settled vs
all_show f [] [] apart count kept = refl
all_show f [] (v ∷ vs) apart count kept = absurd (omega (arith, count))
all_show f (l ∷ ls) [] apart count kept = absurd (omega (arith, count))
all_show f (l ∷ ls) (v ∷ vs) apart count kept =
    let head : shows f (l ∷ ls) (v ∷ vs) l.key ≡ settled v = first_shows f l v ls vs l.write refl apart.0 kept.0 in
    let rest : map (shows f (l ∷ ls) (v ∷ vs)) (lock_keys ls) ≡ map (shows f ls vs) (lock_keys ls) =
    map-same (shows f (l ∷ ls) (v ∷ vs)) (shows f ls vs) (lock_keys ls)
    (λ key has. later_shows f l v ls vs key l.write (other_key l.key key (lock_keys ls) apart.0 has)) in
    ap₂ (λ (a : Account) (more : List Account). a ∷ more) head (rest ∙ all_show f ls vs apart.1 (omega (arith, count)) kept.1)

pub settled_is : (a : Account) → IsSettled a → settled a ≡ a
settled_is a fine = by_case (a.lamports == 0) refl
  where
    by_case : (b : Bool) → (a.lamports == 0) ≡ b → cond b empty_account a ≡ a
    by_case true e = sym (fine (eqb-true a.lamports 0 e))
    by_case false e = refl

are_kept : (f : Key → Account) (ls : List Lock) (vs : List Account) → ((key : Key) → IsSettled (f key))
    → ((place : ℕ) (l : Lock) → slice_get ls place ≡ Some l → l.write ≡ false → slice_get vs place ≡ slice_get (map f (lock_keys ls)) place) → AreKept f ls vs
are_kept f [] vs fine same = tt
are_kept f (l ∷ ls) [] fine same = tt
are_kept f (l ∷ ls) (v ∷ vs) fine same =
    (λ read. ap settled (same_Some v (f l.key) (same 0 l refl read)) ∙ settled_is (f l.key) (fine l.key), are_kept f ls vs fine (λ place lock there read. same (suc place) lock there read))

-- ---- who may write
-- the locks write a key where it is among their written keys
written_by : (ls : List Lock) (key : Key) → has_key key (written_keys ls) ≡ locks_write ls key
written_by [] key = refl
written_by (l ∷ ls) key = by_write l.write (written_by ls key)
  where
    by_write : (b : Bool) → has_key key (written_keys ls) ≡ locks_write ls key
        → has_key key (lock_keys (cond b (l ∷ filter (λ lock. lock.write) ls) (filter (λ lock. lock.write) ls))) ≡ ((b && same_key l.key key) || locks_write ls key)
    by_write true rest = ap₂ (λ (a b : Bool). a || b) (same_key-sym key l.key) rest
    by_write false rest = rest

-- ---- one position
module _ (admitted : AdmittedBlock) (all : All IsChosen admitted.chosen) (start : State) (is : IsState start) where
  lawful : IsLawful (job_of admitted)
  lawful = works_are_lawful admitted all

  -- the accounts before a position
  abbrev now : ℕ → Key → Account
  now n = at (serial_state (job_of admitted) start n)

  pub is_state : (n : ℕ) → n ≤ length admitted.chosen → IsState (serial_state (job_of admitted) start n)
  is_state n l = serial_states (job_of admitted) start lawful is n l

  same_now : (n : ℕ) → n ≤ length admitted.chosen → serial (job_of admitted) (at start) n ≡ now n
  same_now n l = λ i key. sym (states_run (job_of admitted) start lawful is n l key) i

  at_next : (n : ℕ) → n < length admitted.chosen → (key : Key) → at (serial_state (job_of admitted) start (suc n)) key ≡ next (job_of admitted) (now n) n key
  at_next n l key =
      states_run (job_of admitted) start lawful is (suc n) (omega (arith, l)) key
      ∙ ap (λ (f : Key → Account). next (job_of admitted) f n key) (same_now n (omega (arith, l)))

  module _ (n : ℕ) (l : n < length admitted.chosen) (t : Chosen) (there : slice_get admitted.chosen n ≡ Some t) (fits : IsChosen t) where
    -- the values of its keys, and what they come to
    abbrev given : List Account
    given = map (now n) (all_keys t.tx.message t.loaded)

    abbrev left : List Account
    left = (transaction (block_of admitted) t given).values

    keys_are : lock_keys (locks t) ≡ all_keys t.tx.message t.loaded
    keys_are = keys_of_locks t.tx.message t.loaded

    -- what it keeps of its accounts
    pub keeps : Keeps t given (transaction (block_of admitted) t given)
    keeps = transaction_keeps (block_of admitted) t given fits (length-map (all_keys t.tx.message t.loaded) (now n))

    before_fits : (key : Key) → IsSettled (now n key)
    before_fits key = (at_fits (serial_state (job_of admitted) start n) (is_state n (omega (arith, l))) key).1

    stepped : (key : Key) → at (serial_state (job_of admitted) start (suc n)) key ≡ shows (now n) (locks t) left key
    stepped key =
        at_next n l key ∙ ap (λ (o : Option Chosen). cond (has_key key (written_keys (locks_at o)))
        (beside key (written_keys (locks_at o))
        (effects_at (block_of admitted) o (map (now n) (lock_keys (locks_at o)))).written) (now n key)) there
        ∙ ap (λ (ls : List Lock). cond (has_key key (written_keys ls))
        (beside key (written_keys ls) (effects_at (block_of admitted) (Some t) (map (now n) (lock_keys ls))).written)
        (now n key)) fits.locked ∙ ap (λ (ks : List Key). cond (has_key key (written_keys (locks t)))
        (beside key (written_keys (locks t)) (effects_at (block_of admitted) (Some t) (map (now n) ks)).written)
        (now n key)) keys_are

    -- the accounts under its keys are those that it came to
    pub under_its_keys : map (at (serial_state (job_of admitted) start (suc n))) (all_keys t.tx.message t.loaded) ≡ map settled left
    under_its_keys =
        let apart : AreApart (lock_keys (locks t)) = apart_if (lock_keys (locks t)) (subst (IsDistinct same_key) (sym keys_are) fits.apart) in
        let some = keeps.count in
        let given_count = length-map (all_keys t.tx.message t.loaded) (now n) in
        let lock_each = lock_count t.tx.message t.loaded in
        map-same (at (serial_state (job_of admitted) start (suc n))) (shows (now n) (locks t) left) (all_keys t.tx.message t.loaded) (λ key has. stepped key)
        ∙ ap (map (shows (now n) (locks t) left)) (sym keys_are) ∙ all_show (now n) (locks t) left apart (omega (arith, some, given_count, lock_each))
        (are_kept (now n) (locks t) left before_fits
        (λ place lock there read. keeps.read place (lock_writes t place lock there ∙ read) ∙ ap (λ (ks : List Key). slice_get (map (now n) ks) place) (sym keys_are)))

    -- those under other keys stay
    pub under_other_keys : (key : Key) → has_key key (all_keys t.tx.message t.loaded) ≡ false → at (serial_state (job_of admitted) start (suc n)) key ≡ now n key
    under_other_keys key none = stepped key ∙ none_written (now n) (locks t) left key (ap (has_key key) keys_are ∙ none)

    -- and so do those that it may not write
    pub under_unwritten_keys : (key : Key) → locks_write t.locks key ≡ false → at (serial_state (job_of admitted) start (suc n)) key ≡ now n key
    under_unwritten_keys key none =
        stepped key ∙ cond-false (has_key key (written_keys (locks t))) (beside key (written_keys (locks t)) (map settled (lent_for_writing (locks t) left))) (now n key)
        (written_by (locks t) key ∙ ap (λ (ls : List Lock). locks_write ls key) (sym fits.locked) ∙ none)

    -- and its outcome is that of its position
    pub comes_to : result (job_of admitted) (at start) n ≡ (transaction (block_of admitted) t given).outcome
    comes_to =
        ap (λ (f : Key → Account). (performed (job_of admitted) f n).outcome) (same_now n (omega (arith, l)))
        ∙ ap (λ (o : Option Chosen). (effects_at (block_of admitted) o (map (now n) (lock_keys (locks_at o)))).outcome) there
        ∙ ap (λ (ls : List Lock). (effects_at (block_of admitted) (Some t) (map (now n) (lock_keys ls))).outcome) fits.locked
        ∙ ap (λ (ks : List Key). (effects_at (block_of admitted) (Some t) (map (now n) ks)).outcome) keys_are

-- No transaction of a block makes an executable account, or changes one.
use Rattle.std.proofs.Common.{◌≡◌, ◌≤◌, ◌<◌, ◌==◌, ◌↔◌, ◌∷◌, [], ℕ, zero, suc, Bool, true, false, cond, ◌||◌, List, length, map, filter, Option, Some, None, All, refl, sym, ap, subst, ◌∙◌, arith}
use Rattle.std.specs.Prelude.{slice_get, unwrap_or}
use Rattle.std.proofs.lemmas.Bool.{eqb-true}
use Rattle.std.proofs.lemmas.List.{length-map}
use Rattle.std.proofs.lemmas.Option.{same_Some}
use Rattle.sol_base.specs.declared.key.Key.{Key}
use Rattle.sol_base.specs.declared.account.Account.{Account}
use Rattle.sol_base.specs.declared.lock.Lock.{Lock}
use Rattle.sol_base.specs.Accounts.{empty_account}
use Rattle.sol_base.proofs.KeyLaws.{same_key-true}
use Rattle.message_codec.proofs.RoleLaws.{lock_count}
use Rattle.account_store.specs.State.{State, IsState, at, get, settled}
use Rattle.bank_law.specs.Job.{beside, has_key, lock_keys, same_key, write_keys, writes, written_keys}
use Rattle.bank_law.specs.Lawful.{IsSettled, lent_for_writing}
use Rattle.bank_law.specs.Serial.{performed, serial}
use Rattle.bank_law.specs.SerialState.{serial_state}
use Rattle.bank_law.proofs.States.{at_fits, serial_states, states_run}
use Rattle.admission.specs.declared.chosen.Chosen.{Chosen}
use Rattle.admission.specs.Chosen.{IsChosen}
use Rattle.tx_exec.specs.declared.admitted.AdmittedBlock.{AdmittedBlock}
use Rattle.tx_exec.specs.AdmittedBlock.{block_of, effects_at, job_of, locks_at}
use Rattle.tx_exec.specs.Transaction.{transaction}
use Rattle.tx_exec.specs.TransactionLaws.{Keeps}
use Rattle.tx_exec.proofs.Keeping.{transaction_keeps}
use Rattle.tx_exec.proofs.Works.{works_are_lawful}
use Rattle.block_run.proofs.Positions.{at_position}

-- what stands beside a written key is what became of the value at one of its places
record Placed (f : Key → Account) (key : Key) (ls : List Lock) (after : List Account) : Type 0 where
  place : ℕ
  value : Account
  before : slice_get (map f (lock_keys ls)) place ≡ Some (f key)
  there : slice_get after place ≡ Some value
  beside_is : beside key (written_keys ls) (map settled (lent_for_writing ls after)) ≡ settled value

later : (f : Key → Account) (key : Key) (lock : Lock) (v : Account) (ls : List Lock) (after : List Account)
    (p : Placed f key ls after) → beside key (written_keys (lock ∷ ls))
    (map settled (lent_for_writing (lock ∷ ls) (v ∷ after)))
    ≡ beside key (written_keys ls) (map settled (lent_for_writing ls after))
    → Placed f key (lock ∷ ls) (v ∷ after)
later f key lock v ls after p same = record { place = suc p.place; value = p.value; before = p.before; there = p.there; beside_is = same ∙ p.beside_is }

placed : (f : Key → Account) (key : Key) (ls : List Lock) (after : List Account) → length after ≡ length ls → has_key key (written_keys ls) ≡ true → Placed f key ls after
placed f key [] after count has = absurd (cc)
placed f key (lock ∷ ls) [] count has = absurd (omega (arith, count))
placed f key (lock ∷ ls) (v ∷ after) count has = by_write (placed f key ls after (omega (arith, count))) lock.write refl has
  where
    by_key : (has_key key (written_keys ls) ≡ true → Placed f key ls after) → lock.write ≡ true → (b : Bool)
        → same_key key lock.key ≡ b → (b || has_key key (written_keys ls)) ≡ true
        → Placed f key (lock ∷ ls) (v ∷ after)
    by_key rest w true same h = record {
      place = 0;
      value = v;
      before = ap (λ (k : Key). Some (f k)) (sym (same_key-true key lock.key same));
      there = refl;
      beside_is =
          ap (λ (b : Bool). beside key
          (lock_keys (cond b (lock ∷ filter (λ lock. lock.write) ls) (filter (λ lock. lock.write) ls)))
          (map settled (cond b (v ∷ lent_for_writing ls after) (lent_for_writing ls after)))) w
          ∙ ap (λ (b : Bool). cond b (settled v) (beside key (written_keys ls) (map settled (lent_for_writing ls after)))) same;
    }
    by_key rest w false apart h = later f key lock v ls after (rest h)
        (ap (λ (b : Bool). beside key
        (lock_keys (cond b (lock ∷ filter (λ lock. lock.write) ls) (filter (λ lock. lock.write) ls)))
        (map settled (cond b (v ∷ lent_for_writing ls after) (lent_for_writing ls after)))) w
        ∙ ap (λ (b : Bool). cond b (settled v) (beside key (written_keys ls) (map settled (lent_for_writing ls after)))) apart)

    by_write : (has_key key (written_keys ls) ≡ true → Placed f key ls after) → (b : Bool) → lock.write ≡ b
        → has_key key (lock_keys (cond b (lock ∷ filter (λ lock. lock.write) ls)
        (filter (λ lock. lock.write) ls))) ≡ true → Placed f key (lock ∷ ls) (v ∷ after)
    by_write rest true w h = by_key rest w (same_key key lock.key) refl h
    by_write rest false w h = later f key lock v ls after (rest h)
        (ap (λ (b : Bool). beside key
        (lock_keys (cond b (lock ∷ filter (λ lock. lock.write) ls) (filter (λ lock. lock.write) ls)))
        (map settled (cond b (v ∷ lent_for_writing ls after) (lent_for_writing ls after)))) w)

-- an executable account is not the empty one
not_empty : (a : Account) → a.executable ≡ true → a ≡ empty_account → ⊥
not_empty a executable e = let other = ap (λ (x : Account). x.executable) e in absurd (cc)

settled_is : (v a : Account) → a.executable ≡ true → settled v ≡ a → v ≡ a
settled_is v a executable e = by_case (v.lamports == 0) e
  where
    by_case : (b : Bool) → cond b empty_account v ≡ a → v ≡ a
    by_case true h = absurd (not_empty a executable (sym h))
    by_case false h = h

stays_settled : (a : Account) → a.executable ≡ true → IsSettled a → settled a ≡ a
stays_settled a executable fine = by_case (a.lamports == 0) refl
  where
    by_case : (b : Bool) → (a.lamports == 0) ≡ b → cond b empty_account a ≡ a
    by_case true e = absurd (not_empty a executable (fine (eqb-true a.lamports 0 e)))
    by_case false e = refl

-- ---- one transaction
module _ (admitted : AdmittedBlock) (t : Chosen) (is : IsChosen t) (f : Key → Account) (fine : (key : Key) → IsSettled (f key)) (key : Key) where
  keeps : Keeps t (map f (lock_keys t.locks)) (transaction (block_of admitted) t (map f (lock_keys t.locks)))
  keeps = transaction_keeps (block_of admitted) t (map f (lock_keys t.locks)) is
      (length-map (lock_keys t.locks) f ∙ length-map t.locks (λ (lock : Lock). lock.key) ∙ ap length is.locked ∙ lock_count t.tx.message t.loaded)

  count : length (transaction (block_of admitted) t (map f (lock_keys t.locks))).values ≡ length t.locks
  count = keeps.count ∙ length-map (lock_keys t.locks) f ∙ length-map t.locks (λ (lock : Lock). lock.key)

  by_locks : (effects_at (block_of admitted) (Some t) (map f (lock_keys t.locks))).written
      ≡ map settled (lent_for_writing t.locks
      (transaction (block_of admitted) t (map f (lock_keys t.locks))).values)
  by_locks = ap (λ (ls : List Lock). map settled (lent_for_writing ls (transaction (block_of admitted) t (map f (lock_keys t.locks))).values)) (sym is.locked)

  at_place : has_key key (written_keys t.locks) ≡ true → Placed f key t.locks (transaction (block_of admitted) t (map f (lock_keys t.locks))).values
  at_place has = placed f key t.locks (transaction (block_of admitted) t (map f (lock_keys t.locks))).values count has

  stays_one : has_key key (written_keys t.locks) ≡ true → (a : Account) → a.executable ≡ true
      → (beside key (written_keys t.locks) (effects_at (block_of admitted) (Some t) (map f (lock_keys t.locks))).written ≡ a) ↔ (f key ≡ a)
  stays_one has a executable = (to, from)
    where
      p : Placed f key t.locks (transaction (block_of admitted) t (map f (lock_keys t.locks))).values
      p = at_place has

      is_value : beside key (written_keys t.locks) (effects_at (block_of admitted) (Some t) (map f (lock_keys t.locks))).written ≡ settled p.value
      is_value = ap (beside key (written_keys t.locks)) by_locks ∙ p.beside_is

      to : beside key (written_keys t.locks) (effects_at (block_of admitted) (Some t) (map f (lock_keys t.locks))).written ≡ a → f key ≡ a
      to e =
          let v : p.value ≡ a = settled_is p.value a executable (sym is_value ∙ e) in
          let was = keeps.no_new p.place p.value p.there (ap (λ (x : Account). x.executable) v ∙ executable) in
          same_Some (f key) p.value (sym p.before ∙ was) ∙ v

      from : f key ≡ a → beside key (written_keys t.locks) (effects_at (block_of admitted) (Some t) (map f (lock_keys t.locks))).written ≡ a
      from e =
          let x = ap (λ (y : Account). y.executable) e ∙ executable in
          let now = keeps.programs p.place (f key) p.before x in
          let v : p.value ≡ f key = same_Some p.value (f key) (sym p.there ∙ now) in
          is_value ∙ ap settled v ∙ stays_settled (f key) x (fine key) ∙ e

-- ---- the serial run
module _ (admitted : AdmittedBlock) (all : All IsChosen admitted.chosen) (start : State) (is : IsState start) where
  fine_run : (n : ℕ) → n ≤ length admitted.chosen → (key : Key) → IsSettled (serial (job_of admitted) (at start) n key)
  fine_run n l key =
      subst IsSettled (states_run (job_of admitted) start (works_are_lawful admitted all) is n l key)
      (at_fits (serial_state (job_of admitted) start n) (serial_states (job_of admitted) start (works_are_lawful admitted all) is n l) key).1

  stays_next : (n : ℕ) → n < length admitted.chosen → (key : Key) (a : Account) → a.executable ≡ true
      → (serial (job_of admitted) (at start) (suc n) key ≡ a) ↔ (serial (job_of admitted) (at start) n key ≡ a)
  stays_next n l key a executable = by_case (writes (job_of admitted) n key) refl
    where
      now : Key → Account
      now = serial (job_of admitted) (at start) n

      here : has_key key (written_keys ((job_of admitted).locks n)) ≡ true
          → (beside key (write_keys (job_of admitted) n) (performed (job_of admitted) (serial (job_of admitted) (at start) n) n).written ≡ a) ↔ (serial (job_of admitted) (at start) n key ≡ a)
      here has = at_position admitted all
          (λ o. has_key key (written_keys (locks_at o)) ≡ true
          → (beside key (written_keys (locks_at o))
          (effects_at (block_of admitted) o
          (map (serial (job_of admitted) (at start) n) (lock_keys (locks_at o)))).written ≡ a) ↔
          (serial (job_of admitted) (at start) n key ≡ a))
          (λ t fits has. stays_one admitted t fits (serial (job_of admitted) (at start) n) (fine_run n (omega (arith, l))) key has a executable) n l has

      by_case : (b : Bool) → writes (job_of admitted) n key ≡ b
          → (cond b (beside key (write_keys (job_of admitted) n)
          (performed (job_of admitted) (serial (job_of admitted) (at start) n) n).written)
          (serial (job_of admitted) (at start) n key) ≡ a) ↔ (serial (job_of admitted) (at start) n key ≡ a)
      by_case true w = here w
      by_case false w = (λ e. e, λ e. e)

  stays_all : (n : ℕ) → n ≤ length admitted.chosen → (key : Key) (a : Account) → a.executable ≡ true
      → (serial (job_of admitted) (at start) n key ≡ a) ↔ (at start key ≡ a)
  stays_all zero l key a executable = (λ e. e, λ e. e)
  stays_all (suc n) l key a executable =
      let one = stays_next n (omega (arith, l)) key a executable in
      let rest = stays_all n (omega (arith, l)) key a executable in
      (λ e. rest.0 (one.0 e), λ e. one.1 (rest.1 e))

  -- an executable account that shows at a key is there
  there_if : (s : State) (key : Key) (a : Account) → a.executable ≡ true → at s key ≡ a → get s key ≡ Some a
  there_if s key a executable e = by_case (get s key) refl e
    where
      by_case : (o : Option Account) → get s key ≡ o → unwrap_or o empty_account ≡ a → o ≡ Some a
      by_case None h g = absurd (not_empty a executable (sym g))
      by_case (Some b) h g = ap Some g

  -- the executable accounts of every state of the run are those of the start
  pub executable_stay : (n : ℕ) → n ≤ length admitted.chosen → (key : Key) (a : Account) → a.executable ≡ true
      → (get (serial_state (job_of admitted) start n) key ≡ Some a) ↔ (get start key ≡ Some a)
  executable_stay n l key a executable =
      let same = states_run (job_of admitted) start (works_are_lawful admitted all) is n l key in
      let stays = stays_all n l key a executable in (
        λ e. there_if start key a executable (stays.0 (sym same ∙ ap (λ (o : Option Account). unwrap_or o empty_account) e)),
        λ e. there_if (serial_state (job_of admitted) start n) key a executable (same ∙ stays.1 (ap (λ (o : Option Account). unwrap_or o empty_account) e)),
      )

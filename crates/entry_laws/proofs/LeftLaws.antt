-- What entries leave as it is.
use Rattle.std.proofs.Common.{◌≡◌, ◌≢◌, ◌≤◌, ◌<◌, ◌+◌, ◌-◌, ◌==◌, ◌∷◌, [], ◌++◌, ℕ, zero, suc, Bool, true, false, not, cond, ◌&&◌, ◌||◌, List, length, map, Option, Some, None, Result, Ok, Err, All, refl, sym, ap, subst, ◌∙◌, arith}
use Rattle.std.specs.Prelude.{nat_lt, option_map, slice_get}
use Rattle.std.proofs.lemmas.Option.{same_Some}
use Rattle.sol_base.specs.declared.key.Key.{Key}
use Rattle.sol_base.specs.declared.key.Hash32.{Hash32}
use Rattle.sol_base.specs.declared.account.Account.{Account}
use Rattle.sol_base.specs.Accounts.{empty_account, lamports_in}
use Rattle.sol_base.specs.Keys.{has_key, same_key}
use Rattle.sol_base.proofs.KeyLaws.{same_key-false, same_key-true}
use Rattle.message_codec.specs.declared.message.Tx.{Tx}
use Rattle.message_codec.specs.Roles.{all_keys}
use Rattle.fee_rules.specs.declared.split.FeeSplit.{FeeSplit}
use Rattle.fee_rules.specs.Fees.{split_of}
use Rattle.tx_report.specs.declared.cause.Cause.{Cause}
use Rattle.tx_report.specs.declared.cause.Cause.TheVariants.{LoadedDataTooLarge}
use Rattle.tx_report.specs.declared.cause.DropCause.{DropCause}
use Rattle.tx_report.specs.Statuses.{whole_transaction}
use Rattle.tx_report.specs.declared.outcome.Outcome.{Outcome}
use Rattle.tx_report.specs.declared.status.Status.TheVariants.{Dropped, Failed}
use Rattle.account_store.specs.State.{State, IsState, at, get, kept, put, settled}
use Rattle.account_store.proofs.StateLaws.{get-at, get-put_key, same_at, same_state}
use Rattle.loader_prog.specs.Loader.{active}
use Rattle.snapshot_codec.specs.declared.batch.Batch.{Batch}
use Rattle.snapshot_codec.specs.declared.snapshot.Snapshot.{Snapshot}
use Rattle.block_record.specs.declared.block.Entry.{Entry}
use Rattle.admission.specs.declared.chosen.Chosen.{Chosen}
use Rattle.admission.specs.Admission.{may_write_key}
use Rattle.admission.specs.Chosen.{IsChosen}
use Rattle.bank_law.proofs.States.{at_fits, lamports_in-cons}
use Rattle.bank_law.specs.Lawful.{IsSettled}
use Rattle.tx_exec.specs.declared.admitted.AdmittedBlock.{AdmittedBlock}
use Rattle.tx_exec.specs.AdmittedBlock.{block_of}
use Rattle.tx_exec.specs.declared.executing.Executed.{Executed}
use Rattle.tx_exec.specs.declared.failure.Failure.{Failure}
use Rattle.tx_exec.specs.Executing.{InBlock, fixed_for, locks, performed}
use Rattle.tx_exec.specs.Payer.{charged, dropped, less, total_fee}
use Rattle.tx_exec.specs.Transaction.{by_drop, data_in, failing, finished, finishing, paid, ran, rent_broken, transaction}
use Rattle.tx_exec.specs.TransactionLaws.{Keeps}
use Rattle.invoke_engine.specs.Frame.{Fixed}
use Rattle.block_end.specs.BlockEnd.{base_fees, may_collect, more, priority_fees, share, share_fees}
use Rattle.block_end.proofs.Activating.{get-activate_all}
use Rattle.block_end.specs.Blocks.{entry_of}
use Rattle.block_run.specs.Blocks.{block_result, closed}
use Rattle.block_run.specs.SerialRun.{serial_run, told_in}
use Rattle.block_laws.specs.Keeping.{CanRun, order_of}
use Rattle.block_laws.proofs.Keeps.{admitted_fit}
use Rattle.entry_laws.specs.Entries.{IsPayer, state_in}
use Rattle.entry_laws.specs.Left.{EndsPayAndActivate, paid_to, DroppedEntriesLeaveNothing, FailedEntriesPayAlone, NoneMayWrite, PaysAlone, UnwrittenKeysStay}
use Rattle.entry_laws.proofs.TotalLaws.{shares_by}
use Rattle.entry_laws.proofs.EntryLaws.{IsOfEntry, all_at, of_entry}
use Rattle.tx_exec.proofs.Works.{there}
use Rattle.entry_laws.proofs.Steps.{comes_to, is_state, keeps as it_keeps, settled_is, under_its_keys, under_other_keys, under_unwritten_keys}

-- ---- what a transaction pays
abbrev pub paid_by : Outcome → ℕ
paid_by o = o.base_paid + o.priority_paid

-- one that is not dropped pays its fee
finished_pays : (t : Chosen) (base : List Account) (units : ℕ) (lines : List (List ℕ)) (r : Result (List Account) Failure)
    → paid_by (finished t base units lines r).outcome ≡ total_fee t
finished_pays t base units lines (Err f) = refl
finished_pays t base units lines (Ok after) = by_rent (rent_broken (locks t) base after)
  where
    by_rent : (o : Option ℕ) → paid_by (finishing t base units lines after o).outcome ≡ total_fee t
    by_rent None = refl
    by_rent (Some place) = refl

paid_pays : (s : Fixed) (t : Chosen) (base : List Account) → paid_by (paid s t base).outcome ≡ total_fee t
paid_pays s t base = by_size (nat_lt t.budget.loaded (data_in base))
  where
    e : Executed
    e = performed s t base

    by_size : (b : Bool) → paid_by (cond b (failing t base (record { index = whole_transaction; cause = LoadedDataTooLarge; detail = 0 }) 0 []) (ran t base (performed s t base))).outcome ≡ total_fee t
    by_size true = refl
    by_size false = finished_pays t base (t.budget.limit - e.units) e.log.lines e.result

-- one that is not dropped has a payer that can pay, and pays its fee
pub record IsPaid (block : InBlock) (t : Chosen) (values : List Account) : Type 0 where
  pub able : dropped values (total_fee t) ≡ None
  pub pays : paid_by (transaction block t values).outcome ≡ total_fee t

pub not_dropped_is_paid : (block : InBlock) (t : Chosen) (values : List Account) → ((cause : DropCause) → (transaction block t values).outcome.status ≢ Dropped cause) → IsPaid block t values
unfolding transaction
not_dropped_is_paid block t values other = record { able = able (dropped values (total_fee t)) refl other; pays = pays (dropped values (total_fee t)) other }
  where
    able : (o : Option DropCause) → dropped values (total_fee t) ≡ o → ((cause : DropCause) → (by_drop (fixed_for block t) t values o).outcome.status ≢ Dropped cause) → dropped values (total_fee t) ≡ None
    able (Some cause) is other = absurd (other cause refl)
    able None is other = is

    pays : (o : Option DropCause) → ((cause : DropCause) → (by_drop (fixed_for block t) t values o).outcome.status ≢ Dropped cause) → paid_by (by_drop (fixed_for block t) t values o).outcome ≡ total_fee t
    pays (Some cause) other = absurd (other cause refl)
    pays None other = paid_pays (fixed_for block t) t (charged values (total_fee t))

failed_pays : (block : InBlock) (t : Chosen) (values : List Account) (index : ℕ) (cause : Cause) (detail : ℕ)
    → (transaction block t values).outcome.status ≡ Failed index cause detail → paid_by (transaction block t values).outcome ≡ total_fee t
failed_pays block t values index cause detail e = (not_dropped_is_paid block t values (λ why d. let no = sym e ∙ d in absurd (cc))).pays

-- ---- the accounts
each_of : (f g : Key → Account) (ks : List Key) → map g ks ≡ map settled (map f ks) → (key : Key) → has_key key ks ≡ true → g key ≡ settled (f key)
each_of f g [] same key has = absurd (cc)
each_of f g (k ∷ ks) same key has = by_case (same_key key k) refl has (each_of f g ks tail key)
  where
    head : g k ≡ settled (f k)
    head = cc

    tail : map g ks ≡ map settled (map f ks)
    tail = cc

    by_case : (b : Bool) → same_key key k ≡ b → (b || has_key key ks) ≡ true → (has_key key ks ≡ true → g key ≡ settled (f key)) → g key ≡ settled (f key)
    by_case true e has rest = subst (λ (q : Key). g q ≡ settled (f q)) (sym (same_key-true key k e)) head
    by_case false e has rest = rest has

-- of a transaction that only pays
paying : (f g : Key → Account) (payer : Key) (rest : List Key) (fee : ℕ) → ((key : Key) → IsSettled (f key))
    → map g (payer ∷ rest) ≡ map settled (charged (map f (payer ∷ rest)) fee) → ((key : Key) → has_key key (payer ∷ rest) ≡ false → g key ≡ f key)
    → (key : Key) → g key ≡ cond (same_key key payer) (settled (less (f payer) fee)) (f key)
paying f g payer rest fee fine same others key = by_case (same_key key payer) refl (others key)
  where
    head : g payer ≡ settled (less (f payer) fee)
    head = cc

    tail : map g rest ≡ map settled (map f rest)
    tail = cc

    by_place : (b : Bool) → has_key key rest ≡ b → (b ≡ false → g key ≡ f key) → g key ≡ f key
    by_place true has other = each_of f g rest tail key has ∙ settled_is (f key) (fine key)
    by_place false has other = other refl

    by_case : (b : Bool) → same_key key payer ≡ b → ((b || has_key key rest) ≡ false → g key ≡ f key) → g key ≡ cond b (settled (less (f payer) fee)) (f key)
    by_case true e other = ap g (same_key-true key payer e) ∙ head
    by_case false e other = by_place (has_key key rest) refl other

kept_settled : (a : Account) → kept (settled a) ≡ kept a
kept_settled a = by_case (a.lamports == 0) refl
  where
    by_case : (b : Bool) → (a.lamports == 0) ≡ b → kept (cond b empty_account a) ≡ kept a
    by_case true e = sym (ap (λ (t : Bool). let o : Option Account = cond t None (Some a) in o) e)
    by_case false e = refl

-- a state that shows another account under one key alone
put_alone : (now after : State) (payer : Key) (a : Account) → IsState now → IsState after
    → ((key : Key) → at after key ≡ cond (same_key key payer) (settled a) (at now key)) → after ≡ put now payer a
put_alone now after payer a is ends shown =
    same_state after (put now payer a) (λ q. get-at after q ends ∙ ap kept (shown q) ∙ by_case q (same_key q payer) ∙ sym (get-put_key now payer a q))
  where
    by_case : (q : Key) (b : Bool) → kept (cond b (settled a) (at now q)) ≡ cond b (kept a) (get now q)
    by_case q true = kept_settled a
    by_case q false = sym (get-at now q is)

record BeginsWith (key : Key) (ks : List Key) : Type 0 where
  rest : List Key
  is : ks ≡ key ∷ rest

begins : (ks more : List Key) (key : Key) → slice_get ks 0 ≡ Some key → BeginsWith key (ks ++ more)
begins [] more key first = absurd (cc)
begins (k ∷ ks) more key first = record { rest = ks ++ more; is = ap (λ (q : Key). q ∷ (ks ++ more)) (same_Some k key first) }

payer_first : (t : Chosen) (tx : Tx) (payer : Key) → t.tx ≡ tx → IsPayer tx payer → BeginsWith payer (all_keys t.tx.message t.loaded)
payer_first t tx payer same pays =
    let one = begins t.tx.message.keys t.loaded.writable payer (ap (λ (x : Tx). slice_get x.message.keys 0) same ∙ pays) in
    begins (t.tx.message.keys ++ t.loaded.writable) t.loaded.readonly payer (ap (λ (ks : List Key). slice_get ks 0) one.is)

module _ (s : Snapshot) (batch : Batch) (runs : CanRun s batch.wires) where
  abbrev order : List Chosen
  order = order_of s batch

  abbrev told : AdmittedBlock
  told = told_in s batch.slot order

  all : All IsChosen order
  all = admitted_fit s batch runs

  state : (n : ℕ) → n ≤ length order → IsState (state_in s batch n)
  state n l = is_state told all s.accounts runs.0.state n l

  module _ (i : ℕ) (entry : Entry) (tx : Tx) (name : Hash32) (of : IsOfEntry s batch i entry tx name) where
    abbrev t : Chosen
    t = of.t

    abbrev given : List Account
    given = map (at (state_in s batch i)) (all_keys t.tx.message t.loaded)

    abbrev outcome : Outcome
    outcome = (transaction (block_of told) t given).outcome

    fits : IsChosen t
    fits = all_at IsChosen order i t all of.chosen

    keeps : Keeps t given (transaction (block_of told) t given)
    keeps = it_keeps told all s.accounts runs.0.state i of.below t of.chosen fits

    is_outcome : entry ≡ entry_of batch.wires (t, outcome)
    is_outcome = of.is ∙ ap (λ (o : Outcome). entry_of batch.wires (t, o)) (comes_to told all s.accounts runs.0.state i of.below t of.chosen fits)

    under : map (at (state_in s batch (suc i))) (all_keys t.tx.message t.loaded) ≡ map settled (transaction (block_of told) t given).values
    under = under_its_keys told all s.accounts runs.0.state i of.below t of.chosen fits

    others : (key : Key) → has_key key (all_keys t.tx.message t.loaded) ≡ false → at (state_in s batch (suc i)) key ≡ at (state_in s batch i) key
    others key none = under_other_keys told all s.accounts runs.0.state i of.below t of.chosen fits key none

    before_fine : (key : Key) → IsSettled (at (state_in s batch i) key)
    before_fine key = (at_fits (state_in s batch i) (state i (let l = of.below in omega (arith, l))) key).1

    pays_alone : (payer : Key) → IsPayer tx payer → (index : ℕ) (cause : Cause) (detail : ℕ) → entry.status ≡ Failed index cause detail
        → PaysAlone (state_in s batch i) (state_in s batch (suc i)) payer entry.fee
    pays_alone payer pays index cause detail failed =
        let now = state_in s batch i in
        let after = state_in s batch (suc i) in
        let status : outcome.status ≡ Failed index cause detail = sym (ap (λ (e : Entry). e.status) is_outcome) ∙ failed in
        let fee : total_fee t ≡ entry.fee = sym (failed_pays (block_of told) t given index cause detail status) ∙ sym (ap (λ (e : Entry). e.fee) is_outcome) in
        let first : BeginsWith payer (all_keys t.tx.message t.loaded) = payer_first t tx payer of.same pays in
        let left : (transaction (block_of told) t given).values ≡ charged given (total_fee t) = keeps.failed index cause detail status in
        let shown : map (at after) (payer ∷ first.rest) ≡ map settled (charged (map (at now) (payer ∷ first.rest)) (total_fee t)) =
        subst (λ (ks : List Key). map (at after) ks ≡ map settled (charged (map (at now) ks) (total_fee t))) first.is (under ∙ ap (map settled) left) in
        let elsewhere : (key : Key) → has_key key (payer ∷ first.rest) ≡ false → at after key ≡ at now key =
        subst (λ (ks : List Key). (key : Key) → has_key key ks ≡ false → at after key ≡ at now key) first.is others in
        let below = of.below in
        subst (λ n. PaysAlone now after payer n) fee
        (record {
          enough = enough payer first (omega (arith, kept_lamports index cause detail status, failed_pays (block_of told) t given index cause detail status));
          same = put_alone now after payer (less (at now payer) (total_fee t)) (state i (omega (arith, below))) (state (suc i) (omega (arith, below)))
              (paying (at now) (at after) payer first.rest (total_fee t) before_fine shown elsewhere);
        })
      where
        kept_lamports : (index : ℕ) (cause : Cause) (detail : ℕ) → outcome.status ≡ Failed index cause detail
            → lamports_in (charged given (total_fee t)) + outcome.base_paid + outcome.priority_paid ≡ lamports_in given
        kept_lamports index cause detail status =
            subst (λ (vs : List Account). lamports_in vs + outcome.base_paid + outcome.priority_paid ≡ lamports_in given) (keeps.failed index cause detail status) keeps.lamports

        enough : (payer : Key) (first : BeginsWith payer (all_keys t.tx.message t.loaded)) → lamports_in (charged given (total_fee t)) + total_fee t ≡ lamports_in given
            → total_fee t ≤ (at (state_in s batch i) payer).lamports
        enough payer first sums =
            let f = at (state_in s batch i) in
            let had = lamports_in-cons (f payer) (map f first.rest) in
            let has = lamports_in-cons (less (f payer) (total_fee t)) (map f first.rest) in
            let here : lamports_in (charged (map f (payer ∷ first.rest)) (total_fee t)) + total_fee t ≡ lamports_in (map f (payer ∷ first.rest)) =
            subst (λ (ks : List Key). lamports_in (charged (map f ks) (total_fee t)) + total_fee t ≡ lamports_in (map f ks)) first.is sums in
            omega (arith, had, has, here)

    leaves_nothing : (cause : DropCause) → entry.status ≡ Dropped cause → state_in s batch (suc i) ≡ state_in s batch i
    leaves_nothing cause dropped_is =
        let status : outcome.status ≡ Dropped cause = sym (ap (λ (e : Entry). e.status) is_outcome) ∙ dropped_is in
        let shown : map (at (state_in s batch (suc i))) (all_keys t.tx.message t.loaded) ≡ map settled given = under ∙ ap (map settled) (keeps.dropped cause status) in
        let below = of.below in
        same_at (state_in s batch (suc i)) (state_in s batch i) (state (suc i) (omega (arith, below))) (state i (omega (arith, below)))
        (λ key. by_place shown key (has_key key (all_keys t.tx.message t.loaded)) refl)
      where
        by_place : map (at (state_in s batch (suc i))) (all_keys t.tx.message t.loaded) ≡ map settled given → (key : Key) (b : Bool) → has_key key (all_keys t.tx.message t.loaded) ≡ b
            → at (state_in s batch (suc i)) key ≡ at (state_in s batch i) key
        by_place shown key true has =
            each_of (at (state_in s batch i)) (at (state_in s batch (suc i))) (all_keys t.tx.message t.loaded) shown key has
            ∙ settled_is (at (state_in s batch i) key) (before_fine key)
        by_place shown key false has = others key has

  -- ---- a key that no transaction may write
  module _ (key : Key) (none : NoneMayWrite key order) where
    stays : (n : ℕ) → n ≤ length order → get (state_in s batch n) key ≡ get s.accounts key
    stays zero l = refl
    stays (suc n) l =
        let here : n < length order = omega (arith, l) in
        let x = there order n here all in
        let same : at (state_in s batch (suc n)) key ≡ at (state_in s batch n) key =
        under_unwritten_keys told all s.accounts runs.0.state n here x.0 x.1 x.2 key (all_at (λ (t : Chosen). may_write_key key t ≡ false) order n x.0 none x.1) in
        get-at (state_in s batch (suc n)) key (state (suc n) l) ∙ ap kept same
        ∙ sym (get-at (state_in s batch n) key (state n (omega (arith, l)))) ∙ stays n (omega (arith, l))

-- ---- the end of a block
more_none : (account : Account) → more account 0 ≡ account
more_none account = ap (λ n. let a : Account = record account { lamports = n } in a) (let e : account.lamports + 0 ≡ account.lamports = omega arith in e)

shared_at : (state : State) (collector : Key) (split : FeeSplit) (key : Key) → IsState state
    → get (share state collector split).accounts key ≡ kept (paid_to collector (share state collector split).collected key (at state key))
shared_at state collector split key is = by_case (not (split.rest == 0) && may_collect collector (more (at state collector) split.rest))
  where
    paid : (b : Bool) → same_key key collector ≡ b
        → cond b (kept (more (at state collector) split.rest)) (get state key) ≡ kept (cond b (more (at state key) split.rest) (at state key))
    paid true same = ap (λ (k : Key). kept (more (at state k) split.rest)) (sym (same_key-true key collector same))
    paid false same = get-at state key is

    unpaid : (b : Bool) → kept (at state key) ≡ kept (cond b (more (at state key) 0) (at state key))
    unpaid true = ap kept (sym (more_none (at state key)))
    unpaid false = refl

    by_case : (b : Bool) → get (shares_by state collector split b).accounts key ≡ kept (paid_to collector (shares_by state collector split b).collected key (at state key))
    by_case true = get-put_key state collector (more (at state collector) split.rest) key ∙ paid (same_key key collector) refl
    by_case false = get-at state key is ∙ unpaid (same_key key collector)

pub ends_pay_and_activate : EndsPayAndActivate
unfolding block_result closed serial_run share_fees
ends_pay_and_activate s batch runs key =
    let r = serial_run s batch.slot (order_of s batch) in
    get-activate_all (share_fees r.accounts batch.collector r.outcomes).accounts key ∙ ap (option_map active)
    (shared_at r.accounts batch.collector (split_of (base_fees r.outcomes) (priority_fees r.outcomes)) key (state s batch runs (length (order_of s batch)) (omega arith)))

stays_after : (s : Snapshot) (batch : Batch) → CanRun s batch.wires → (key : Key) → key ≢ batch.collector
    → get (block_result s batch).after.accounts key ≡ option_map active (get (state_in s batch (length (order_of s batch))) key)
stays_after s batch runs key other =
    let last = state_in s batch (length (order_of s batch)) in
    ends_pay_and_activate s batch runs key
    ∙ ap (λ (b : Bool). option_map active (kept (cond b (more (at last key) (block_result s batch).block.collected) (at last key)))) (same_key-false key batch.collector other)
    ∙ ap (option_map active) (sym (get-at last key (state s batch runs (length (order_of s batch)) (omega arith))))

pub failed_pay_alone : FailedEntriesPayAlone
failed_pay_alone s batch runs i entry tx name e payer pays index cause detail failed =
    pays_alone s batch runs i entry tx name (of_entry s batch i entry tx name e) payer pays index cause detail failed

pub dropped_leave_nothing : DroppedEntriesLeaveNothing
dropped_leave_nothing s batch runs i entry tx name e cause dropped_is = leaves_nothing s batch runs i entry tx name (of_entry s batch i entry tx name e) cause dropped_is

pub unwritten_stay : UnwrittenKeysStay
unwritten_stay s batch runs key none = record {
  running = stays s batch runs key none;
  after = λ other. stays_after s batch runs key other ∙ ap (option_map active) (stays s batch runs key none (length (order_of s batch)) (omega arith));
}

-- What a transaction keeps.
use Rattle.std.proofs.Common.{◌≡◌, ◌≤◌, ◌<◌, ◌+◌, ◌==◌, ℕ, zero, suc, List, [], ◌∷◌, length, map, Bool, true, false, Option, Some, None, Result, Ok, Err, All, refl, ap, sym, subst, ◌∙◌, arith, if◌then◌else◌}
use Rattle.std.specs.Prelude.{slice_get, nat_le, nat_lt, nat_eq, not, ◌&&◌, ◌||◌, MatchResult}
use Rattle.std.specs.List.{enumerate_from}
use Rattle.std.specs.Option.{option_map_or}
use Rattle.std.proofs.lemmas.List.{length-map}
use Rattle.std.proofs.lemmas.List.Elements.{All-head, All-tail, All-cons, All-nil}
use Rattle.std.proofs.lemmas.Bool.{cond_both}
use Rattle.std.proofs.lemmas.Bool.Decides.{nat_tests}
use Rattle.sol_base.specs.declared.key.Key.{Key}
use Rattle.sol_base.specs.declared.account.Account.{Account}
use Rattle.sol_base.specs.declared.lock.Lock.{Lock}
use Rattle.sol_base.specs.declared.lock.Meta.{Meta}
use Rattle.sol_base.specs.Accounts.{AreShort, IsShort, lamports_in, max_data_len}
use Rattle.sol_base.specs.Metas.{AreInRange, is_listed_writable}
use Rattle.sol_base.specs.Limits.{max_transaction_keys}
use Rattle.account_store.specs.State.{settled}
use Rattle.account_rules.specs.KeptAccounts.{AreKeptBy}
use Rattle.account_rules.proofs.KeptLaws.{AreKeptBy-refl, AreKeptBy-trans, AreKeptBy-weaker}
use Rattle.message_codec.specs.declared.message.Instruction.{Instruction}
use Rattle.message_codec.specs.Roles.{all_keys, lock_of, may_write}
use Rattle.message_codec.proofs.RoleLaws.{payer_is_writable, are_named}
use Rattle.tx_report.specs.LogLines.{Log, no_lines}
use Rattle.tx_report.specs.Statuses.{whole_transaction}
use Rattle.tx_report.specs.declared.cause.Cause.TheVariants.{RentState, LoadedDataTooLarge}
use Rattle.tx_report.specs.declared.cause.DropCause.{DropCause}
use Rattle.tx_report.specs.declared.cause.DropCause.TheVariants.{PayerAbsent, PayerNotSystem, CannotPayFee}
use Rattle.tx_report.specs.declared.status.InstructionError.{InstructionError}
use Rattle.tx_report.specs.declared.status.Status.TheVariants.{Dropped, Good}
use Rattle.bank_law.specs.Lawful.{lent_for_writing}
use Rattle.bank_law.proofs.States.{lamports_in-cons}
use Rattle.bank_law.proofs.Supply.{lent_for_writing-length, lent_for_writing-short}
use Rattle.admission.specs.declared.chosen.Chosen.{Chosen}
use Rattle.admission.specs.Chosen.{IsChosen}
use Rattle.invoke_engine.specs.FrameLaws.{AreListed}
use Rattle.invoke_engine.specs.Frame.{Ending, Fixed, frame, instruction, nothing_returned}
use Rattle.invoke_engine.proofs.Kept.{frame_keeps}
use Rattle.invoke_engine.specs.Frames.{max_trace}
use Rattle.account_rules.specs.Wallets.{is_wallet}
use Rattle.tx_exec.specs.Payer.{charged, drop_cause, dropped, less, total_fee}
use Rattle.tx_exec.specs.Executing.{Executed, Failure, InBlock, call_of, executed, fixed_for, following, locks, meta_of, performed, lets_write}
use Rattle.tx_exec.specs.Transaction.{Transacted, by_drop, came_to, data_in, failing, finished, finishing, no_fee, rent_broken, transaction}
use Rattle.tx_exec.specs.TransactionLaws.{Keeps, WritesFit}
use Rattle.tx_exec.proofs.Settled.{all_settled, all_settled_lamports, all_settled_short}
use Rattle.tx_exec.proofs.Lent.{lent_lamports}

-- ---- the rights of an instruction

-- a lock writes what its message lets be written
lock_there : (f : ℕ × Key → Lock) (n : ℕ) (ks : List Key) (place : ℕ) (lock : Lock)
    → slice_get (map f (enumerate_from n ks)) place ≡ Some lock
    → (key : Key) × (slice_get ks place ≡ Some key) × (f (n + place, key) ≡ lock)
lock_there f n [] place lock h = absurd (cc)
lock_there f n (k ∷ ks) zero lock h = let same : n ≡ n + 0 = omega arith in (k, refl, subst (λ m. f (m, k) ≡ lock) same (cc))
lock_there f n (k ∷ ks) (suc place) lock h =
    let there = lock_there f (n + 1) ks place lock h in
    let same : n + 1 + place ≡ n + suc place = omega arith in
    (there.0, there.1, subst (λ m. f (m, there.0) ≡ lock) same there.2)

pub lock_writes : (t : Chosen) (place : ℕ) (lock : Lock) → slice_get (locks t) place ≡ Some lock → lets_write t place ≡ lock.write
lock_writes t place lock h =
    let there = lock_there (lock_of t.tx.message t.loaded) 0 (all_keys t.tx.message t.loaded) place lock h in
    let same : place ≡ 0 + place = omega arith in
    ap (λ (o : Option Key). option_map_or (may_write t.tx.message t.loaded place) o false) there.1 ∙
    ap (λ n. may_write t.tx.message t.loaded n there.0) same ∙
    ap (λ (l : Lock). l.write) there.2

-- an instruction writes no account that its message does not
no_right : (t : Chosen) (ps : List ℕ) (place : ℕ) → lets_write t place ≡ false → is_listed_writable (map (meta_of t) ps) place ≡ false
no_right t [] place h = refl
no_right t (p ∷ ps) place h = by_test (nat_eq p place) refl (no_right t ps place h)
  where
    by_test : (b : Bool) → nat_eq p place ≡ b → is_listed_writable (map (meta_of t) ps) place ≡ false → ((b && lets_write t p) || is_listed_writable (map (meta_of t) ps) place) ≡ false
    by_test true e r = let same : p ≡ place = grind (arith, nat_tests) in let none : lets_write t p ≡ false = ap (lets_write t) same ∙ h in rw none r
    by_test false e r = r

-- its accounts are there
abbrev pub IsThere : Chosen → Instruction → Type 0
IsThere t i = All (λ place. place < length (all_keys t.tx.message t.loaded)) i.accounts

pub metas_there : (t : Chosen) (n : ℕ) (ps : List ℕ) → All (λ place. place < n) ps → AreInRange n (map (meta_of t) ps)
metas_there t n [] h = All-nil (λ (meta : Meta). meta.index < n)
metas_there t n (p ∷ ps) h =
    All-cons (λ (meta : Meta). meta.index < n) (meta_of t p) (map (meta_of t) ps) (All-head (λ place. place < n) p ps h)
    (metas_there t n ps (All-tail (λ place. place < n) p ps h))

pub all_there : (t : Chosen) → IsChosen t → All (IsThere t) t.tx.message.instructions
all_there t is k d l = (are_named t.tx max_transaction_keys t.loaded is.sane is.loaded k d l).accounts

-- ---- the instructions
abbrev pub IsKept : Chosen → List Account → List Account → Type 0
IsKept t before after = AreKeptBy (lets_write t) before after

abbrev pub GoodKeeps : {E : Type 0} → Chosen → List Account → Result (List Account) E → Type 0
GoodKeeps t a result = MatchResult result (λ b. IsKept t a b) (λ _. Unit {0})

of_end : (t : Chosen) (i : Instruction) (a : List Account) (result : Result (List Account) InstructionError)
    → MatchResult result (λ b. AreKeptBy (is_listed_writable (call_of t i).metas) a b) (λ _. Unit {0})
    → GoodKeeps t a result
of_end t i a (Ok b) k = AreKeptBy-weaker (is_listed_writable (call_of t i).metas) (lets_write t) a b (no_right t i.accounts) k
of_end t i a (Err error) k = tt

pub instruction_keeps : (s : Fixed) (t : Chosen) (i : Instruction) (a : List Account) (units trace : ℕ)
    (log : Log) → s.keys ≡ all_keys t.tx.message t.loaded → IsThere t i
    → length a ≡ length (all_keys t.tx.message t.loaded)
    → GoodKeeps t a (instruction s (call_of t i) a units trace log).result
instruction_keeps s t i a units trace log keys there count =
    let listed : AreListed (length (all_keys t.tx.message t.loaded)) (call_of t i).metas a =
    record {
      count = count;
      range = metas_there t (length (all_keys t.tx.message t.loaded)) i.accounts
          there;
    } in
    cond_both (nat_le max_trace trace) _ _ (λ (e : Ending). GoodKeeps t a e.result) (λ _. tt)
    (λ _. of_end t i a (frame s [] (call_of t i) a units (nothing_returned trace log)).result
    (frame_keeps s [] (call_of t i) a units (nothing_returned trace log) (subst (λ (ks : List Key). AreListed (length ks) (call_of t i).metas a) (sym keys) listed)))

follow_keeps : (t : Chosen) (index : ℕ) (on : List Account → ℕ → ℕ → Log → Executed) (a : List Account) (result : Result (List Account) InstructionError) (e : Ending) →
    ((b : List Account) (units trace : ℕ) (log : Log) → length b ≡ length a → GoodKeeps t b (on b units trace log).result) → GoodKeeps t a result → GoodKeeps t a (following index on result e).result
follow_keeps t index on a (Ok b) e all k = through (on b e.units e.carried.trace e.carried.log).result (all b e.units e.carried.trace e.carried.log k.count)
  where
    through : (result : Result (List Account) Failure) → GoodKeeps t b result → GoodKeeps t a result
    through (Ok c) l = AreKeptBy-trans (lets_write t) a b c k l
    through (Err f) l = tt
follow_keeps t index on a (Err error) e all k = tt

executed_keeps : (block : InBlock) (t : Chosen) (index : ℕ) (is : List Instruction) (a : List Account)
    (units trace : ℕ) (log : Log) → All (IsThere t) is → length a ≡ length (all_keys t.tx.message t.loaded)
    → GoodKeeps t a (executed (fixed_for block t) t index is a units trace log).result
unfolding executed
executed_keeps block t index [] a units trace log there count = AreKeptBy-refl (lets_write t) a
executed_keeps block t index (i ∷ is) a units trace log there count =
    follow_keeps t index (executed (fixed_for block t) t (index + 1) is) a _ (instruction (fixed_for block t) (call_of t i) a units trace log)
    (λ b u s l same. executed_keeps block t (index + 1) is b u s l (All-tail (IsThere t) i is there) (same ∙ count))
    (instruction_keeps (fixed_for block t) t i a units trace log refl (All-head (IsThere t) i is there) count)

-- ---- the fee

-- a wallet is no program
no_program : (a e d : Bool) → (a && not e && d) ≡ true → e ≡ false
no_program true true d h = absurd (cc)
no_program true false d h = refl
no_program false e d h = absurd (cc)

-- a payer that is not refused is no program, and has the fee
payer_is : (payer : Account) (fee : ℕ) → drop_cause payer fee ≡ None → (payer.executable ≡ false) × (fee ≤ payer.lamports)
payer_is payer fee h = tests (payer.lamports == 0) (is_wallet payer) (nat_lt payer.lamports fee) _ refl refl h
  where
    tests : (a b c : Bool) (rest : Option DropCause) → is_wallet payer ≡ b → nat_lt payer.lamports fee ≡ c →
        (if a then Some PayerAbsent else if not b then Some PayerNotSystem else if c then Some CannotPayFee else rest) ≡ None → (payer.executable ≡ false) × (fee ≤ payer.lamports)
    tests true b c rest w l e = absurd (cc)
    tests false false c rest w l e = absurd (cc)
    tests false true true rest w l e = absurd (cc)
    tests false true false rest w l e = (no_program _ payer.executable _ w, grind (arith, nat_tests))

-- what taking the fee keeps
record IsCharged (t : Chosen) (before after : List Account) : Type 0 where
  pub count : length after ≡ length before
  pub lamports : lamports_in after + total_fee t ≡ lamports_in before
  pub read : (place : ℕ) → lets_write t place ≡ false → slice_get after place ≡ slice_get before place
  pub programs : (place : ℕ) (account : Account) → slice_get before place ≡ Some account → account.executable ≡ true → slice_get after place ≡ Some account
  pub no_new : (place : ℕ) (account : Account) → slice_get after place ≡ Some account → account.executable ≡ true → slice_get before place ≡ Some account
  pub short : AreShort before → AreShort after
  pub is : after ≡ charged before (total_fee t)

-- only the first value changes
other_read : (t : Chosen) (payer less : Account) (others : List Account) → lets_write t 0 ≡ true → (place : ℕ)
    → lets_write t place ≡ false → slice_get (less ∷ others) place ≡ slice_get (payer ∷ others) place
other_read t payer less others w zero r = absurd (cc)
other_read t payer less others w (suc place) r = refl

other_program : (payer less : Account) (others : List Account) → payer.executable ≡ false
    → (place : ℕ) (account : Account) → slice_get (payer ∷ others) place ≡ Some account
    → account.executable ≡ true → slice_get (less ∷ others) place ≡ Some account
other_program payer less others p zero account h e = let same : payer ≡ account = cc in let none : account.executable ≡ false = ap (λ (a : Account). a.executable) (sym same) ∙ p in absurd (cc)
other_program payer less others p (suc place) account h e = h

pub short_less : (payer less : Account) (others : List Account) → less.bytes ≡ payer.bytes → AreShort (payer ∷ others) → AreShort (less ∷ others)
short_less payer less others e h =
    All-cons IsShort less others (subst (λ (b : List ℕ). length b ≤ max_data_len) (sym e) (All-head IsShort payer others h)) (All-tail IsShort payer others h)

fee_taken : (t : Chosen) (values : List Account) → lets_write t 0 ≡ true → dropped values (total_fee t) ≡ None → IsCharged t values (charged values (total_fee t))
fee_taken t [] w h = absurd (cc)
fee_taken t (payer ∷ others) w h =
    let is = payer_is payer (total_fee t) h in
    let enough : total_fee t ≤ payer.lamports = is.1 in
    let left = lamports_in-cons (less payer (total_fee t)) others in
    let right = lamports_in-cons payer others in
    record {
      count = refl;
      lamports = omega (arith, enough, left, right);
      read = other_read t payer (less payer (total_fee t)) others w;
      programs = other_program payer (less payer (total_fee t)) others is.0;
      no_new = other_program (less payer (total_fee t)) payer others is.0;
      short = short_less payer (less payer (total_fee t)) others refl;
      is = refl;
    }

-- ---- the whole

base_keeps : (t : Chosen) (values base : List Account) (f : Failure) (units : ℕ) (lines : List (List ℕ)) → IsCharged t values base → Keeps t values (failing t base f units lines)
base_keeps t values base f units lines k = record {
  count = k.count;
  lamports = omega (arith, k.lamports);
  read = k.read;
  programs = k.programs;
  no_new = k.no_new;
  short = k.short;
  failed = λ index cause detail e. k.is;
  dropped = λ cause e. absurd (cc);
}

after_keeps : (t : Chosen) (values base after : List Account) (units : ℕ) (lines : List (List ℕ))
    → IsCharged t values base → IsKept t base after → Keeps t values (came_to Good units t.fee lines after)
after_keeps t values base after units lines k l = record {
  count = l.count ∙ k.count;
  lamports = omega (arith, k.lamports, l.lamports);
  read = λ place r. l.readonly place r ∙ k.read place r;
  programs = λ place x h e. l.programs place x (k.programs place x h e) e;
  no_new = λ place x h e. k.no_new place x (l.no_new place x h e) e;
  short = λ h. l.short (k.short h);
  failed = λ index cause detail e. absurd (cc);
  dropped = λ cause e. absurd (cc);
}

finished_keeps : (t : Chosen) (values base : List Account) (units : ℕ) (lines : List (List ℕ))
    (result : Result (List Account) Failure) → IsCharged t values base → GoodKeeps t base result
    → Keeps t values (finished t base units lines result)
finished_keeps t values base units lines (Err f) k l = base_keeps t values base f units lines k
finished_keeps t values base units lines (Ok after) k l = by_rent (rent_broken (locks t) base after)
  where
    by_rent : (o : Option ℕ) → Keeps t values (finishing t base units lines after o)
    by_rent (Some i) = base_keeps t values base (record { index = whole_transaction; cause = RentState; detail = i }) units lines k
    by_rent None = after_keeps t values base after units lines k l

dropped_keeps : (t : Chosen) (values : List Account) (cause : DropCause) → Keeps t values (came_to (Dropped cause) 0 no_fee [] values)
dropped_keeps t values cause = record {
  count = refl;
  lamports = omega arith;
  read = λ place r. refl;
  programs = λ place x h e. h;
  no_new = λ place x h e. h;
  short = λ h. h;
  failed = λ index why detail e. absurd (cc);
  dropped = λ why e. refl;
}

-- what a transaction keeps
pub transaction_keeps : (block : InBlock) (t : Chosen) (values : List Account) → IsChosen t → length values ≡ length (all_keys t.tx.message t.loaded) → Keeps t values (transaction block t values)
unfolding transaction
transaction_keeps block t values is count = by_cause (dropped values (total_fee t)) refl
  where
    by_cause : (o : Option DropCause) → dropped values (total_fee t) ≡ o → Keeps t values (by_drop (fixed_for block t) t values o)
    by_cause (Some cause) h = dropped_keeps t values cause
    by_cause None h =
        let base : List Account = charged values (total_fee t) in
        let k : IsCharged t values base = fee_taken t values (payer_is_writable t.tx max_transaction_keys t.loaded is.sane) h in
        cond_both (nat_lt t.budget.loaded (data_in base)) _ _ (Keeps t values) (λ _. base_keeps t values base (record { index = whole_transaction; cause = LoadedDataTooLarge; detail = 0 }) 0 [] k)
        (λ _. finished_keeps t values base _ _ (performed (fixed_for block t) t base).result k
        (executed_keeps block t 0 t.tx.message.instructions base t.budget.limit 0 no_lines (all_there t is) (k.count ∙ count)))

-- what is written fits what was lent, where the values are kept
fits_kept : (t : Chosen) (values : List Account) (x : Transacted) → length values ≡ length (locks t) → Keeps t values x → WritesFit t values x
fits_kept t values x h k =
    let one : length (map settled (lent_for_writing (locks t) x.values)) ≡ length (lent_for_writing (locks t) x.values) = length-map (lent_for_writing (locks t) x.values) settled in
    let two = all_settled_lamports (lent_for_writing (locks t) x.values) in
    let same = lent_lamports (locks t) values x.values h (k.count ∙ h) (λ place lock there reads. k.read place (lock_writes t place lock there ∙ reads)) in
    let sum = k.lamports in
    record {
      one_each = one ∙ lent_for_writing-length (locks t) x.values (k.count ∙ h);
      lamports = omega (arith, two, same, sum);
      short = λ s. all_settled_short (lent_for_writing (locks t) x.values) (lent_for_writing-short (locks t) x.values (k.short s));
      settled = all_settled (lent_for_writing (locks t) x.values);
    }

pub transaction_fits : (block : InBlock) (t : Chosen) (values : List Account) → IsChosen t
    → length values ≡ length (all_keys t.tx.message t.loaded) → length values ≡ length (locks t)
    → WritesFit t values (transaction block t values)
transaction_fits block t values is all h = fits_kept t values _ h (transaction_keeps block t values is all)

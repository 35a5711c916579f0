-- The small work for trials is lawful.
use Rattle.std.proofs.Common.{◌≡◌, ◌-◌, ◌<◌, ◌≤◌, Bool, true, false, cond, List, [], ◌∷◌, map, filter, refl, sym, ◌∙◌, arith}
use Rattle.std.specs.Prelude.{nat_lt}
use Rattle.std.proofs.lemmas.Bool.Decides.{nat_tests}
use Rattle.std.proofs.lemmas.List.{length-map}
use Rattle.std.proofs.lemmas.List.Elements.{All-head, All-tail, All-cons, All-nil}
use Rattle.sol_base.specs.declared.account.Account.{Account}
use Rattle.sol_base.specs.declared.lock.Lock.{Lock}
use Rattle.sol_base.specs.Accounts.{empty_account}
use Rattle.bank_law.specs.Lawful.{IsShort, AreShort, IsSettled, AreSettled, lamports_in, lent_for_writing, IsLawful}
use Rattle.bank_law.proofs.States.{lamports_in-cons}
use Rattle.bank_law.proofs.Supply.{lent_for_writing-length, lent_for_writing-short}
use Rattle.lane_trials.specs.Trial.{spent, trial_job, AreDistinctLists}

spent-le : (a : Account) → (spent a).lamports ≤ a.lamports
spent-le a = by_case (nat_lt 1 a.lamports)
  where
    by_case : (b : Bool) → (cond b (record a { lamports = a.lamports - 1 }) empty_account).lamports
        ≤ a.lamports
    by_case true = omega arith
    by_case false = omega arith

spent-short : (a : Account) → IsShort a → IsShort (spent a)
spent-short a s = by_case (nat_lt 1 a.lamports)
  where
    by_case : (b : Bool) → IsShort (cond b (record a { lamports = a.lamports - 1 }) empty_account)
    by_case true = s
    by_case false = omega arith

spent-settled : (a : Account) → IsSettled (spent a)
spent-settled a = by_case (nat_lt 1 a.lamports) refl
  where
    by_case : (b : Bool) → nat_lt 1 a.lamports ≡ b
        → IsSettled (cond b (record a { lamports = a.lamports - 1 }) empty_account)
    by_case true e =
        λ z. let l : 1 < a.lamports = grind (arith, nat_tests) in absurd (omega (arith, z, l))
    by_case false e = λ z. refl

all_spent-le : (vs : List Account) → lamports_in (map spent vs) ≤ lamports_in vs
all_spent-le [] = omega arith
all_spent-le (v ∷ vs) =
    let one = spent-le v in
    let rest = all_spent-le vs in
    let a = lamports_in-cons (spent v) (map spent vs) in
    let b = lamports_in-cons v vs in
    omega (arith, one, rest, a, b)

all_spent-short : (vs : List Account) → AreShort vs → AreShort (map spent vs)
all_spent-short [] s = All-nil IsShort
all_spent-short (v ∷ vs) s =
    All-cons IsShort (spent v) (map spent vs) (spent-short v (All-head IsShort v vs s))
    (all_spent-short vs (All-tail IsShort v vs s))

all_spent-settled : (vs : List Account) → AreSettled (map spent vs)
all_spent-settled [] = All-nil IsSettled
all_spent-settled (v ∷ vs) =
    All-cons IsSettled (spent v) (map spent vs) (spent-settled v) (all_spent-settled vs)

pub trial_lawful : (lists : List (List Lock)) → AreDistinctLists lists → IsLawful (trial_job lists)
trial_lawful lists distinct = record {
  distinct = λ i l. distinct i [] l;
  one_each = λ i vs l F. length-map (lent_for_writing ((trial_job lists).locks i) vs) spent
      ∙ lent_for_writing-length ((trial_job lists).locks i) vs F.one_each
      ∙ sym (length-map (filter (λ lock. lock.write) ((trial_job lists).locks i))
      (λ lock. lock.key));
  no_more = λ i vs l F. all_spent-le (lent_for_writing ((trial_job lists).locks i) vs);
  short = λ i vs l F. all_spent-short (lent_for_writing ((trial_job lists).locks i) vs)
      (lent_for_writing-short ((trial_job lists).locks i) vs F.short);
  settled = λ i vs l F s. all_spent-settled (lent_for_writing ((trial_job lists).locks i) vs);
}

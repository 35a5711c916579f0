-- The lamports of states, and what fits of loans.
use Rattle.std.proofs.Common.{◌≡◌, ℕ, zero, suc, ◌+◌, ◌<◌, true, inl, inr, List, [], ◌∷◌, map, All, length, Option, refl, sym, ◌∙◌, ap, subst, arith}
use Rattle.std.specs.List.{IsDistinct}
use Rattle.std.proofs.lemmas.Bool.{cond-true, cond-false, or_cases}
use Rattle.sol_base.specs.declared.key.Key.{Key}
use Rattle.sol_base.specs.declared.account.Account.{Account}
use Rattle.sol_base.specs.Accounts.{empty_account}
use Rattle.sol_base.proofs.KeyLaws.{same_key-true}
use Rattle.account_store.specs.State.{State, at, sum}
use Rattle.std.proofs.lemmas.List.Elements.{All-head, All-tail}
use Rattle.tx_report.specs.declared.outcome.Outcome.{Outcome}
use Rattle.bank_law.specs.declared.event.Event.{Event}
use Rattle.prio_graph.specs.Ready.{Positions, set_at}
use Rattle.bank_law.specs.Job.{Job, same_key, has_key}
use Rattle.bank_law.proofs.Keys.{has_key-first, has_key-rest}
use Rattle.bank_law.specs.Lawful.{lamports_under, IsStart}
use Rattle.account_store.proofs.SumLaws.{sums_differ, under-cons}
use Rattle.bank_law.proofs.States.{at_fits}
use Rattle.bank_core.specs.Slots.{Shared, numbers}
use Rattle.bank_core.specs.Keeping.{Keeps, IsApart}
use Rattle.lock_table.specs.Numbers.{numbered_key}
use Rattle.bank_core.proofs.Numbers.{keys_is, numbers_within}

under-none : (f : Key → Account) (ks : List Key) → ((key : Key) → has_key key ks ≡ true → (f key).lamports ≡ 0) → lamports_under f ks ≡ 0
under-none f [] none = refl
under-none f (k ∷ ks) none =
    let here = none k (has_key-first k ks) in
    let rest = under-none f ks (λ key m. none key (has_key-rest key k ks m)) in
    let a = under-cons f k ks in
    omega (arith, here, rest, a)

-- the accounts that stand apart, and those in slots
pub apart_sum : (start rest : State) (ks : List Key) → IsDistinct same_key ks → IsApart start rest ks → sum start ≡ sum rest + lamports_under (at start) ks
apart_sum start rest ks d A =
    let all = sums_differ start rest ks A.is_start A.is_rest d (λ key out. sym (A.at_rest key ∙ cond-false (has_key key ks) empty_account (at start key) out)) in
    let none = under-none (at rest) ks (λ key m. ap (λ (a : Account). a.lamports) (A.at_rest key ∙ cond-true (has_key key ks) empty_account (at start key) m)) in
    omega (arith, all, none)

pub among_at : (ks : List Key) (n : ℕ) → n < length ks → has_key (numbered_key ks n) ks ≡ true
among_at [] n l = absurd (omega arith)
among_at (k ∷ ks) zero l = has_key-first k ks
among_at (k ∷ ks) (suc n) l = has_key-rest (numbered_key ks n) k ks (among_at ks n (omega arith))

among : (ks : List Key) (ns : List ℕ) (key : Key) → All (λ n. n < length ks) ns → has_key key (map (numbered_key ks) ns) ≡ true → has_key key ks ≡ true
among ks [] key w h = absurd (cc)
among ks (n ∷ ns) key w h = elim (or_cases (same_key key (numbered_key ks n)) (has_key key (map (numbered_key ks) ns)) h) [
  | inl t ↦ subst (λ k. has_key k ks ≡ true) (sym (same_key-true key (numbered_key ks n) t)) (among_at ks n (All-head (λ x. x < length ks) n ns w))
  | inr r ↦ among ks ns key (All-tail (λ x. x < length ks) n ns w) r
]

-- what a core begins with, by the keys of its table
pub is_start : (job : Job) (start rest : State) (ks : List Key) (p : Positions) (slots : List (Option Shared)) (outcomes : List (Option Outcome)) (journal : List Event)
    → Keeps job (at start) ks p slots outcomes journal → IsApart start rest ks → IsStart job (at start) ks
is_start job start rest ks p slots outcomes journal K A = record {
  distinct = K.distinct;
  all = λ i key l h. among ks (numbers (set_at p.sets i)) key
      (numbers_within ks job i (set_at p.sets i) (K.of.numbered i l))
      (sym (ap (has_key key) (keys_is ks job i (set_at p.sets i) (K.of.numbered i l))) ∙ h);
  supply = let a = apart_sum start rest ks K.distinct A in let b = A.is_start.fits in omega (arith, a, b);
  short = λ key. (at_fits start A.is_start key).0;
  settled = λ key. (at_fits start A.is_start key).1;
}

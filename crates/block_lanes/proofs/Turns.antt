-- The one lane of a core, turn by turn.
use Rattle.std.proofs.Common.{◌≡◌, ◌<◌, ◌+◌, ◌-◌, ◌*◌, ◌∷◌, ◌++◌, [], ℕ, List, length, All, Some, None, subst, sym, ap, ◌∙◌, arith, append-nil, append_assoc, length-append}
use Rattle.std.proofs.lemmas.List.Elements.{All-push}
use Rattle.sol_base.specs.declared.key.Key.{Key}
use Rattle.sol_base.specs.declared.account.Account.{Account}
use Rattle.bank_law.specs.declared.event.Event.{Event}
use Rattle.bank_law.specs.declared.event.EventKind.{EventKind}
use Rattle.bank_law.specs.declared.event.EventKind.TheVariants.{Commit, Grant}
use Rattle.bank_law.specs.Job.{Job}
use Rattle.bank_law.specs.Machine.{IsLegal, with_event}
use Rattle.bank_law.specs.History.{holds, own, returns}
use Rattle.bank_law.proofs.Counts.{short}
use Rattle.bank_law.proofs.Histories.{returns_push}
use Rattle.bank_core.proofs.Seats.{grown_holds, grown_returns}
use Rattle.bank_lanes.specs.declared.gate.Passes.{Passes}
use Rattle.bank_lanes.specs.Gates.{HasPassedGranted, HasPassedOnce, granted, granted_by}

-- the lane holds nothing, and nothing was given back
pub record IsAlone (journal : List Event) : Type 0 where
  pub free : holds (own journal 0) ≡ None
  pub once : returns (own journal 0) ≡ 0
  pub none : returns journal ≡ 0

-- what is granted, one event more
granted_push : (events : List Event) (kind : EventKind) (lane p : ℕ) → granted (with_event events kind lane p) ≡ granted events ++ granted_by kind p
granted_push [] kind lane p = append-nil (granted_by kind p)
granted_push (e ∷ es) kind lane p =
    ap (λ ps. granted_by e.kind e.position ++ ps) (granted_push es kind lane p)
    ∙ sym (append_assoc (granted_by e.kind e.position) (granted es) (granted_by kind p))

-- a loan of the lane, and then its effects
module _ (journal lent : List Event) (p : ℕ) (alone : IsAlone journal) (grant : lent ≡ with_event journal Grant 0 p) where
  pub lent_holds : holds (own lent 0) ≡ Some p
  lent_holds = grown_holds journal lent Grant 0 p grant

  pub lent_once : returns (own lent 0) ≡ 0
  lent_once = let a = grown_returns journal lent Grant 0 p grant in let b = alone.once in omega (arith, a, b)

  lent_none : returns lent ≡ 0
  lent_none = ap returns grant ∙ returns_push journal (record { kind = Grant; lane = 0; position = p }) ∙ (let b = alone.none in omega (arith, b))

  module _ (after : List Event) (commit : after ≡ with_event lent Commit 0 p) where
    pub stays_alone : IsAlone after
    stays_alone = record {
      free = grown_holds lent after Commit 0 p commit;
      once = let a = grown_returns lent after Commit 0 p commit in let b = lent_once in omega (arith, a, b);
      none = ap returns commit ∙ returns_push lent (record { kind = Commit; lane = 0; position = p }) ∙ (let b = lent_none in omega (arith, b));
    }

    granted_more : granted after ≡ granted journal ++ p ∷ []
    granted_more =
        let one : granted lent ≡ granted journal ++ p ∷ [] = ap granted grant ∙ granted_push journal Grant 0 p in
        let two : granted after ≡ granted lent = ap granted commit ∙ (granted_push lent Commit 0 p ∙ append-nil (granted lent)) in
        two ∙ one

    pub passes_granted : (gate : ℕ → ℕ → Type 0) (old new : Passes) → HasPassedGranted gate 0 journal old → HasPassedOnce gate old p new → HasPassedGranted gate 0 after new
    passes_granted gate old new was once = record {
      lane_is = once.lane ∙ was.lane_is;
      all = once.positions ∙ (ap (λ ps. ps ++ p ∷ []) was.all ∙ sym granted_more);
      its = subst (All (gate 0)) (sym granted_more) (All-push (gate 0) (granted journal) p was.its (subst (λ lane. gate lane p) was.lane_is once.its));
    }

    pub fewer_turns : (job : Job) (start : Key → Account) → IsLegal job start lent → 2 * job.count + 1 - length after < 2 * job.count + 1 - length journal
    fewer_turns job start legal =
        let a = short job start lent legal in
        let b = lent_none in
        let c = ap length grant ∙ length-append journal (record { kind = Grant; lane = 0; position = p } ∷ []) in
        let d = ap length commit ∙ length-append lent (record { kind = Commit; lane = 0; position = p } ∷ []) in
        omega (arith, a, b, c, d)

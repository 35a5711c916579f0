-- A journal with one event more, as its lanes see it.
use Rattle.std.proofs.Common.{◌≡◌, ℕ, ◌+◌, List, ◌∙◌, ap}
use Rattle.bank_law.specs.declared.event.Event.{Event}
use Rattle.bank_law.specs.declared.event.EventKind.{EventKind}
use Rattle.bank_law.specs.Machine.{with_event}
use Rattle.bank_law.specs.History.{own, holds, held_after, returns, is_return}
use Rattle.bank_law.proofs.Histories.{own_grows, own_stays, holds_last, returns_push}
use Rattle.bank_law.proofs.Counts.{one_if}
use Rattle.bank_core.specs.Takes.{KeepsOthers}

module _ (journal next : List Event) (kind : EventKind) (lane p : ℕ) (grown : next ≡ with_event journal kind lane p) where
  pub grown_own : own next lane ≡ with_event (own journal lane) kind lane p
  grown_own = ap (λ j. own j lane) grown ∙ own_grows journal kind lane p

  pub grown_holds : holds (own next lane) ≡ held_after kind p
  grown_holds = ap holds grown_own ∙ holds_last (own journal lane) kind lane p

  pub grown_returns : returns (own next lane) ≡ returns (own journal lane) + one_if (is_return kind)
  grown_returns = ap returns grown_own ∙ returns_push (own journal lane) (record { kind = kind; lane = lane; position = p })

  pub grown_others : KeepsOthers journal next lane
  grown_others other n = ap (λ j. own j other) grown ∙ own_stays journal kind lane p other n

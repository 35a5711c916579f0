use Rattle.std.proofs.Common.{◌≡◌, ◌≤◌, Bool, List, [], ◌∷◌, All, MatchBool, None, Some, length, sym, subst, arith, length-take}
use Rattle.sol_base.specs.Limits.{max_transactions}
use Rattle.status_cache.specs.declared.recent.Mark.{Mark}
use Rattle.status_cache.specs.Recent.{Ascends, IsRecent, max_marks}
use Rattle.snapshot_codec.specs.Snapshot.{HasWidths}
use Rattle.ledger_store.specs.Changes.{next_accounts, next_recent}
use Rattle.ledger_store.proofs.Widths.{all_next, next_widths}
use Rattle.ledger_store.proofs.next.next_of.Goals as goal

recent_next : (new before : List Mark) → IsRecent new → IsRecent before → IsRecent (next_recent new before)
recent_next new before a b = record { few = few new b.few; ascending = all_next (λ (mark : Mark). Ascends mark.messages) new before a.ascending b.ascending }
  where
    few : (marks : List Mark) → length before ≤ max_marks → length (next_recent marks before) ≤ max_marks
    few [] h = h
    few (mark ∷ marks) h = omega (arith, length-take max_marks (mark ∷ before))

pub returns-clause-readable : goal.returns-clause-readable
returns-clause-readable c = record {
  limits = c.requires.changes.limits;
  recent = subst IsRecent (sym c.in_ok-advance.ensures) (recent_next c.args.changes.now.left.recent c.args.before.recent c.requires.changes.recent c.requires.before.recent);
  messages =
      subst (λ (marks : List Mark). All (λ mark. length mark.messages ≤ max_transactions) marks) (sym c.in_ok-advance.ensures)
      (all_next (λ (mark : Mark). length mark.messages ≤ max_transactions) c.args.changes.now.left.recent c.args.before.recent c.requires.changes.messages c.requires.before.messages);
  state = c.len.ensures.state;
  accounts = omega (arith, c.if-len.false, c.len.ensures.len);
}

pub returns-clause-widths : goal.returns-clause-widths
returns-clause-widths c left was =
    let accounts = c.change.new.accounts in
    let fits : next_accounts c.args.changes.now c.args.before.accounts ≡ Some accounts = subst (λ (b : Bool). MatchBool b (next_accounts c.args.changes.now c.args.before.accounts ≡ Some accounts) (next_accounts c.args.changes.now c.args.before.accounts ≡ None)) c.if-not-fits.false c.in_ok-fits.ensures in
    subst (λ (marks : List Mark). HasWidths (record { slot = c.args.changes.now.left.slot; limits = c.args.changes.now.left.limits; recent = marks; accounts = accounts })) (sym c.in_ok-advance.ensures)
    (next_widths c.args.changes.now c.args.before accounts left was fits)

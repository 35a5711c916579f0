use Rattle.std.proofs.Common.{List, ◌≡◌, ◌∷◌, sym, ◌∙◌, ap, subst, arith}
use Rattle.std.specs.List.{AllByRecursion}
use Rattle.std.specs.Arc.{arc_value}
use Rattle.std.proofs.lemmas.List.Sums.{sum_by-cons}
use Rattle.account_store.specs.State.{IsHeld, lamports_of, sum}
use Rattle.account_store.specs.Shared.{seen}
use Rattle.account_store.proofs.StateLaws.{sum-put-le}
use Rattle.ledger_store.specs.Changes.{puts}
use Rattle.ledger_store.proofs.Differences.{Entry}
use Rattle.ledger_store.proofs.next.put_over.Goals as goal

pub put_shared-requires-clause-fits : goal.put_shared-requires-clause-fits
put_shared-requires-clause-fits c =
    let e : Entry = (c.in-Some.key.now, arc_value c.in-Some.account.now) in
    omega (arith, c.loop-key.invariant.fits, ap (λ (es : List Entry). lamports_of es) (ap seen c.in-Some.ensures.steps), sum_by-cons (λ (d : Entry). d.1.lamports) e (seen c.next.new.self))

pub loop-key-preserved : goal.loop-key-preserved
loop-key-preserved c =
    let e : Entry = (c.in-Some.key.now, arc_value c.in-Some.account.now) in
    let left = seen c.next.new.self in
    let steps : seen c.loop-key.rest ≡ e ∷ left = ap seen c.in-Some.ensures.steps in
    let put_in = c.in_ok-put_shared.ensures in
    record {
      same = ap (puts left) put_in ∙ sym (ap (λ (es : List Entry). puts es c.loop-key.accounts) steps) ∙ c.loop-key.invariant.same;
      held = (subst (λ (es : List Entry). AllByRecursion (λ (d : Entry). IsHeld d.1) es) steps c.loop-key.invariant.held).1;
      fits = omega (
        arith,
        c.loop-key.invariant.fits,
        ap (λ (es : List Entry). lamports_of es) steps,
        sum_by-cons (λ (d : Entry). d.1.lamports) e left,
        sum-put-le c.loop-key.accounts e.0 e.1,
        ap sum
            put_in,
      );
    }

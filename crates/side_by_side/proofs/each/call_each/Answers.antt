use Rattle.std.proofs.Common.{rules, ◌+◌, ◌<◌, length, get_or, set, sym, ◌∙◌, subst, inl, inr, arith}
use Rattle.std.proofs.lemmas.Bool.{cases_eq}
use Rattle.std.proofs.lemmas.List.{get_or_default, get_or-set_same, get_or-set_other}
use Rattle.std.specs.Fork.{ChangesAt}
use Rattle.side_by_side.proofs.each.call_each.Goals as goal

pub loop-at-preserved : goal.loop-at-preserved
loop-at-preserved g c =
    let i = c.loop-at.invariant in
    let list = c.loop-at.list in
    let at = c.loop-at.at in
    let one = c.call_at.new.one in
    let within : at < length list = omega arith in (
      λ j d l. get_or-set_other list at j one d (λ q. omega (arith, q, l)) ∙ i.0 j d (omega (arith, l)),
      λ j d l. elim (cases_eq j at) [
        | inl is ↦ subst (λ m. ChangesAt g.F.Fn c.args.f.now (c.args.base + m) (get_or c.args.list.now m d) (get_or (set list at one) m d)) (sym is)
            (subst (λ y. ChangesAt g.F.Fn c.args.f.now (c.args.base + at) (get_or c.args.list.now at d) y) (sym (get_or-set_same list at one d within))
            (subst (λ x. ChangesAt g.F.Fn c.args.f.now (c.args.base + at) x one) (get_or_default list at c.index-list-at.result d within ∙ i.0 at d (omega arith)) c.call_at.ensures))
        | inr other ↦ subst (λ y. ChangesAt g.F.Fn c.args.f.now (c.args.base + j) (get_or c.args.list.now j d) y) (sym (get_or-set_other list at j one d other)) (i.1 j d (omega (arith, l, other)))
      ],
    )

pub returns : goal.returns
returns g c = record { len = search rules; each = λ k d l. c.loop-at.invariant.1 k d (omega (arith, l)) }

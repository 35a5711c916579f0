use Rattle.std.proofs.Common.{◌+◌, refl, subst, get_or, arith}
use Rattle.std.specs.Fork.{ChangesAt}
use Rattle.side_by_side.proofs.each.for_each_mut.Goals as goal

pub returns : goal.returns
returns g c i d l = (
  refl,
  subst (λ n. ChangesAt g.F.Fn c.args.f.now n (get_or c.args.list.now i d) (get_or c.start_from.new.list i d)) {x = 0 + i} (omega arith) (c.start_from.ensures.each i d l),
)

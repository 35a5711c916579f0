use Rattle.std.proofs.Common.{◌||◌, set, true, sym, ap, subst, ◌<◌, ◌∙◌}
use Rattle.sol_base.specs.Keys.{same_hash}
use Rattle.status_cache.specs.declared.among.TheConstants.{PREFIXES}
use Rattle.status_cache.specs.Recent.{has_name}
use Rattle.status_cache.specs.Sought.{IsSought}
use Rattle.status_cache.proofs.SoughtLaws.{name_added, sought_more}
use Rattle.status_cache.proofs.among.Sought.add.Goals as goal

pub invariant_of-self-2 : goal.invariant_of-self-2
invariant_of-self-2 c =
    subst (λ n. IsSought c.insert.new.self (set c.self.inside.prefixes.items n true)) (sym c.prefix_of.ensures.value)
    (sought_more c.self.inside.hashes c.insert.new.self c.self.inside.prefixes.items c.args.hash c.self.invariant (subst (λ n. n < PREFIXES) c.prefix_of.ensures.value c.prefix_of.ensures.within)
    (name_added c.self.inside.hashes c.insert.new.self c.args.hash c.in_ok-insert.ensures.updates.0))

pub returns : goal.returns
returns c = λ other.
    name_added c.self.inside.hashes c.insert.new.self c.args.hash c.in_ok-insert.ensures.updates.0 other
    ∙ ap (λ s. has_name s other || same_hash c.args.hash other) c.self.view_is

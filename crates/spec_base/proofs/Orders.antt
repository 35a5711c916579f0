-- How two values compare.
use Rattle.std.proofs.Common.{◌≡◌, true, refl}
use Rattle.std.specs.Ordering.{is_lt}
use Rattle.std.specs.declared.cmp.Ordering.{Ordering}
use Rattle.std.specs.declared.cmp.Ordering.TheVariants.{Less, Equal, Greater}

-- what tests as less is less
pub less : (o : Ordering) → is_lt o ≡ true → o ≡ Less
less Less e = refl
less Equal e = absurd (cc)
less Greater e = absurd (cc)

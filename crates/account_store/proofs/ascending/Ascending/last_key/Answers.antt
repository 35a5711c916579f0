use Rattle.std.proofs.Common.{◌≡◌, ◌-◌, List, Bor, length, sym, ap, subst, ◌∙◌}
use Rattle.std.specs.Prelude.{option_map, option_copied, slice_get}
use Rattle.sol_base.specs.declared.key.Key.{Key}
use Rattle.account_store.specs.Shared.{Shared}
use Rattle.account_store.proofs.Pushes.{last-of}
use Rattle.account_store.proofs.ascending.Ascending.last_key.Goals as goal

pub returns-in-Some : goal.returns-in-Some
returns-in-Some c =
    sym (ap (option_map (λ (e : Bor (Key × Shared)). e.now.0)) c.in-Some.is)
    ∙ last-of c.last.result c.self.inside.entries.items c.args.self.now c.self.invariant.ascends c.self.view_is
    (subst (λ (l : List (Key × Shared)). option_copied c.last.result ≡ slice_get l (length l - 1)) c.deref.ensures.value c.last.ensures.value)

pub returns-in-None : goal.returns-in-None
returns-in-None c =
    sym (ap (option_map (λ (e : Bor (Key × Shared)). e.now.0)) c.in-None.is)
    ∙ last-of c.last.result c.self.inside.entries.items c.args.self.now c.self.invariant.ascends c.self.view_is
    (subst (λ (l : List (Key × Shared)). option_copied c.last.result ≡ slice_get l (length l - 1)) c.deref.ensures.value c.last.ensures.value)

use Rattle.std.proofs.Common.{◌≡◌, ◌<◌, [], length, ap, subst, ◌∙◌}
use Rattle.std.specs.List.{HoldsAt}
use Rattle.std.specs.declared.cmp.Ordering.TheVariants.{Equal}
use Rattle.program_cache.specs.Programs.{Listing, sought}
use Rattle.sol_base.specs.declared.key.Key.{Key}
use Rattle.sol_base.specs.Keys.{key_cmp}
use Rattle.account_store.proofs.SortedKeys.{search_found, not_found}
use Rattle.program_cache.proofs.Listings.{sought-found, sought-none}
use Rattle.program_cache.proofs.programs.Programs.find.Goals as goal

pub returns-in-Ok : goal.returns-in-Ok
returns-in-Ok c =
    let d : Key = record { 0 = [] } in
    let keys = c.self.inside.keys.items in
    let at = c.in-Ok.at in
    c.found.ensures
    ∙ sought-found keys c.self.inside.kept.items c.args.key.now at d c.index.result.now c.self.invariant (subst (λ ks. at < length ks) c.deref.ensures.value c.in-Ok.ensures.bound)
    (search_found (λ k. k) keys c.args.key.now at d (subst (λ ks. HoldsAt (λ k. key_cmp k c.args.key.now ≡ Equal) ks at) c.deref.ensures.value c.in-Ok.ensures.ok)) c.index.ensures
    ∙ ap (λ (programs : Listing). sought programs c.args.key.now) c.self.view_is

pub returns-in-Err : goal.returns-in-Err
returns-in-Err c =
    sought-none c.self.inside.keys.items c.self.inside.kept.items c.args.key.now
    (not_found c.deref.result.now c.self.inside.keys.items c.args.key.now c.in-Err.field-0
    c.deref.ensures.value c.self.invariant.ascend c.in-Err.ensures.position)
    ∙ ap (λ (programs : Listing). sought programs c.args.key.now) c.self.view_is

use Rattle.std.proofs.Common.{List, ◌++◌, ap, ap₂, ◌∙◌, map}
use Rattle.sol_base.specs.declared.key.Key.{Key}
use Rattle.sol_base.specs.Keys.{has_key}
use Rattle.program_cache.specs.Programs.{sought_in}
use Rattle.program_cache.proofs.Listings.{programs-same, listing-programs, are_kept}
use Rattle.program_cache.proofs.programs.Programs.from_accounts.Goals as goal

pub invariant_of-result : goal.invariant_of-result
invariant_of-result c =
    are_kept c.args.accounts.now c.sort_keys.new.keys.items c.in_ok-kept.kept.items c.sort_keys.ensures.ascend (c.in_ok-kept.ensures ∙ ap (map (sought_in c.args.accounts.now)) c.deref.ensures.value)

pub returns : goal.returns
returns c =
    listing-programs c.args.accounts.now c.sort_keys.new.keys.items c.in_ok-kept.kept.items
    c.sort_keys.ensures.ascend (c.in_ok-kept.ensures
    ∙ ap (map (sought_in c.args.accounts.now)) c.deref.ensures.value)
    ∙ programs-same c.args.accounts.now c.sort_keys.new.keys.items c.args.keys.now
    (λ key. c.sort_keys.ensures.same key
    ∙ ap (has_key key) (c.in_ok-extend_from_slice.ensures.items
    ∙ ap₂ (λ (a b : List Key). a ++ b) c.in_ok-asked.ensures.items c.as_slice.ensures))

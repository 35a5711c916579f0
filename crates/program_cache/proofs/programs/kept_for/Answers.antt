use Rattle.std.proofs.Common.{◌++◌, ◌∷◌, [], List, ap, ap₂, sym, ◌∙◌, map}
use Rattle.std.proofs.lemmas.List.{take_all, map_more, map-append}
use Rattle.sol_base.specs.declared.key.Key.{Key}
use Rattle.program_cache.specs.Programs.{Sought, sought_in}
use Rattle.program_cache.specs.Kept.{kept_as}
use Rattle.program_cache.proofs.programs.kept_for.Goals as goal

pub loop-key-preserved : goal.loop-key-preserved
loop-key-preserved c =
    let d : Key = record { 0 = [] } in
    ap (map kept_as) c.in_ok-push.ensures.items ∙ map-append kept_as c.loop-key.kept.items (c.in_ok-found_under.field-0 ∷ [])
    ∙ ap₂ (λ (l : List Sought) (f : Sought). l ++ f ∷ []) c.loop-key.invariant c.in_ok-found_under.ensures
    ∙ sym (map_more (sought_in c.args.accounts.now) c.args.keys.now c.loop-key.key-index d c.loop-key-test.true)

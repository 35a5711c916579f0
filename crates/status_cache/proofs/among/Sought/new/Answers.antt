use Rattle.std.proofs.Common.{length, ap, ◌∙◌, false}
use Rattle.std.proofs.lemmas.List.{length-replicate}
use Rattle.status_cache.specs.declared.among.TheConstants.{PREFIXES}
use Rattle.status_cache.proofs.SoughtLaws.{none_sought}
use Rattle.status_cache.proofs.among.Sought.new.Goals as goal

pub invariant_of-result : goal.invariant_of-result
invariant_of-result c =
    none_sought c.new.result c.in_ok-vec.field-0.items (λ hash. search) (ap length (c.in_ok-vec.ensures.items_if_clones_equal (λ y same. same)) ∙ length-replicate PREFIXES false)

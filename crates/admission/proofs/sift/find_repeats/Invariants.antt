use Rattle.status_cache.specs.Recent.{has_name}
use Rattle.admission.proofs.SiftLaws.{AreTold}
use Rattle.admission.proofs.sift.find_repeats.Given as goal

abbrev pub invariant-loop-one : goal.invariant-loop-one
invariant-loop-one l = AreTold l.batch l.one-index l.repeats.items (has_name l.names)

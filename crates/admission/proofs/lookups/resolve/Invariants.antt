use Rattle.admission.proofs.LookupLaws.{AreLoaded}
use Rattle.admission.proofs.lookups.resolve.Given as goal

abbrev pub invariant-loop-place : goal.invariant-loop-place
invariant-loop-place l = AreLoaded l.accounts l.lookup-items l.place l.writable l.readonly

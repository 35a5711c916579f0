use Rattle.std.proofs.Common.{◌≡◌, All, IsUtf8, length}
use Rattle.std.specs.List.{AllByRecursion}
use Rattle.text_views.specs.View.{entry_signed}
use Rattle.text_views.proofs.view.signed_in.Given as goal

-- none before the others is signed so
abbrev pub invariant-loop-others : goal.invariant-loop-others
invariant-loop-others l = (entry_signed l.signature l.entries ≡ entry_signed l.signature l.others) × AllByRecursion (λ entry. All IsUtf8 entry.lines) l.others

abbrev pub decreases-loop-others : goal.decreases-loop-others
decreases-loop-others l = length l.others

use Rattle.std.proofs.Common.{rules}
use Rattle.std.proofs.lemmas.List.Sorted.{answers_always}
use Rattle.admission.proofs.LineLaws.{line_by_sort, rank}
use Rattle.admission.proofs.line.line.Goals as goal

pub returns : goal.returns
returns c =
    line_by_sort c.args.standing.items c.sort_by_cached_key.new.self.items (c.in_ok-sort_by_cached_key.ensures.sorted rank (answers_always _ _ _ (λ f a r g h. search rules)))
    (c.sort_by_cached_key.ensures.stable rank (answers_always _ _ _ (λ f a r g h. search rules)))

use Rattle.std.proofs.Common.{[], refl, subst, ◌∙◌}
use Rattle.sha2.specs.Hashers.{Holds256}
use Rattle.block_end.proofs.RecordPrefixes.{begins}
use Rattle.block_end.proofs.record_prefix.begin_record.Goals as goal

pub returns : goal.returns
returns c =
    let written = c.in_ok-write_heading.ensures.after [] (c.reserve.ensures ∙ c.clear.ensures) in
    λ outcomes. begins c.args.parts outcomes _ refl
    (subst (Holds256 c.update.new.self) (c.as_slice.ensures ∙ written) (c.update.ensures [] c.new-hasher.ensures))
    written

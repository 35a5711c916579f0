use Rattle.std.proofs.Common.{ℕ, List, ◌++◌, refl, ap, ◌∙◌}
use Rattle.std.proofs.lemmas.Result.{IfOk-weaker}
use Rattle.block_record.specs.Record.{bytes_of_record}
use Rattle.block_record.proofs.writing.record_bytes.Goals as goal

pub returns : goal.returns
returns c = IfOk-weaker c.write_record-2.result _ _
    (λ bytes adds. adds.after c.in_ok-out.out refl
    ∙ ap (λ (l : List ℕ). l ++ bytes_of_record c.args.block.now) c.in_ok-out.ensures) c.write_record-2.ensures

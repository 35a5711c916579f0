use Rattle.std.proofs.Common.{ap, sym, ◌∙◌}
use Rattle.std.proofs.lemmas.List.{take_rest}
use Rattle.sol_io.specs.Memory.{SourceState}
use Rattle.sol_io.proofs.Transfers.{rest_split}
use Rattle.sol_io.proofs.memory.MemSourceSource.read.Goals as goal

pub returns-clause-bytes : goal.returns-clause-bytes
returns-clause-bytes c =
    let front = simp (take_rest, c.as_slice-2.ensures) at c.copy_front-n.ensures.front in
    ap (λ (s : SourceState). s.rest) (sym c.self.view_is) ∙ rest_split _ _ _ _ front

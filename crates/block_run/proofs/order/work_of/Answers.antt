use Rattle.std.proofs.Common.{◌∙◌, ap, sym}
use Rattle.tx_exec.specs.declared.admitted.AdmittedBlock.{AdmittedBlock}
use Rattle.block_run.proofs.Positions.{numbered_alike}
use Rattle.block_run.proofs.order.work_of.Goals as goal

pub returns-clause-numbered : goal.returns-clause-numbered
returns-clause-numbered g c =
    let n = c.in_ok-programs.numbered in
    numbered_alike c.over-work.result.told c.as_slice.result.now n.table n.graph n.room
    (ap (λ (t : AdmittedBlock). t.chosen) c.over-work.ensures ∙ sym c.as_slice.ensures)
    c.in_ok-programs.ensures.numbered

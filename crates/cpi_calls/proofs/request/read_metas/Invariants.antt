use Rattle.std.proofs.Common.{◌≡◌}
use Rattle.spec_base.proofs.Each.{joined}
use Rattle.sbpf_memory.specs.Plain.{plain_memory}
use Rattle.cpi_calls.specs.Reads.{item_at, items_read, meta_read}
use Rattle.cpi_calls.proofs.Loops.{left}
use Rattle.cpi_calls.proofs.request.read_metas.Given as goal

-- what was read and what is left give what the whole gives
abbrev pub invariant-loop-index : goal.invariant-loop-index
invariant-loop-index l =
    joined l.metas (left (λ index. meta_read (plain_memory l.memory) (item_at l.list index)) l.index l.count) ≡ items_read (meta_read (plain_memory l.memory)) l.list l.count

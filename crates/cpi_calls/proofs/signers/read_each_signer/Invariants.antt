use Rattle.std.proofs.Common.{◌≡◌}
use Rattle.spec_base.proofs.Each.{joined}
use Rattle.sbpf_memory.specs.Plain.{plain_memory}
use Rattle.cpi_calls.specs.Reads.{item_at, items_read, signer_read}
use Rattle.cpi_calls.proofs.Loops.{left}
use Rattle.cpi_calls.proofs.signers.read_each_signer.Given as goal

-- what was read and what is left give what the whole gives
abbrev pub invariant-loop-index : goal.invariant-loop-index
invariant-loop-index l =
    joined l.signers (left (λ index. signer_read (plain_memory l.memory) l.caller (item_at l.list index)) l.index l.count) ≡ items_read (signer_read (plain_memory l.memory) l.caller) l.list l.count

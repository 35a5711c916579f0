use Rattle.abi_input.proofs.Drafts.{state_added}
use Rattle.abi_input.proofs.entry.add_state.Goals as goal

pub returns-clause-bytes : goal.returns-clause-bytes
returns-clause-bytes c =
    state_added c.args.room _ _ _ _ _ _ _ _ _ _ _ c.deref-value.ensures c.len-len.ensures c.to_le_bytes.ensures c.to_le_bytes-2.ensures
    c.in_ok-append.ensures.bytes c.in_ok-append-2.ensures.bytes c.in_ok-append-3.ensures.bytes c.in_ok-lend.ensures.bytes c.in_ok-zeros.ensures.bytes

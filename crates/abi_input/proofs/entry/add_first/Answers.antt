use Rattle.std.proofs.Common.{◌∙◌, ap, arith, replicate}
use Rattle.std.proofs.lemmas.List.{take-replicate}
use Rattle.abi_input.proofs.Drafts.{first_added}
use Rattle.abi_input.proofs.entry.add_first.Goals as goal

pub returns-clause-bytes : goal.returns-clause-bytes
returns-clause-bytes c =
    first_added c.args.listing.signer c.args.listing.writable _ _ _ _ _ _ c.args.key.now _ _ _ _ _ _ _ _ _ c.from.ensures c.from-2.ensures c.from-3.ensures c.deref-value.ensures c.room_for.ensures
    c.in_ok-append.ensures.bytes c.in_ok-append-2.ensures.bytes c.in_ok-append-3.ensures.bytes
    c.in_ok-add_state.ensures.bytes c.in_ok-append-4.ensures.bytes c.in_ok-append-5.ensures.bytes
    (take-replicate c.padding_for.result 8 0 (omega arith) ∙ ap (λ n. replicate n 0) c.padding_for.ensures)
    c.to_le_bytes.ensures

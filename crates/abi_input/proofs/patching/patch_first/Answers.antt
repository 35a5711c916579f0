use Rattle.std.proofs.Common.{◌+◌, ◌++◌, take, drop, ap, ◌∙◌}
use Rattle.std.specs.Arc.{arc_value}
use Rattle.std.proofs.lemmas.Result.{on_ok_weaker}
use Rattle.abi_input.proofs.Drafts.{over_added}
use Rattle.abi_input.proofs.patching.patch_first.Goals as goal

pub returns-clause-bytes : goal.returns-clause-bytes
returns-clause-bytes c =
    on_ok_weaker c.copy-2.result
    (λ e. over_added c.args.start.now (arc_value c.args.now.now) c.args.region.now.bytes c.args.draft.now.bytes
    c.copy.new.draft.bytes c.add_state.new.draft.bytes c.copy-2.new.draft.bytes c.args.entry
    c.room_for-room.result
    c.room_for-room.ensures c.requires.within c.in_ok-add_state.ensures.size c.in_ok-copy.ensures.bytes c.in_ok-add_state.ensures.bytes
    (e ∙ ap (λ n. c.add_state.new.draft.bytes ++ take (n + 8) (drop (c.args.entry + 88 + c.room_for-room.result) c.args.region.now.bytes)) c.padding_for.ensures))
    c.copy-2.ensures.bytes

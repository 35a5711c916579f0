use Rattle.std.proofs.Common.{◌≡◌, [], drop, map}
use Rattle.sbpf_asm.specs.Assembly.{slots_after}
use Rattle.sbpf_asm.specs.Views.{labels_view, placed_view}
use Rattle.sbpf_asm.proofs.assembler.text_of.Given as goal

abbrev pub invariant-loop-placed : goal.invariant-loop-placed
invariant-loop-placed l = slots_after (labels_view l.source.labels.entries) l.text
    (map placed_view (drop l.placed-index l.source.instructions))
    ≡ slots_after (labels_view l.source.labels.entries) [] (map placed_view l.source.instructions)

use Rattle.std.proofs.Common.{ap, refl, ◌∙◌}
use Rattle.bank_cli.specs.Texts.{refused_lines}
use Rattle.bank_cli.proofs.Blocks.{block_told}
use Rattle.bank_cli.proofs.produce.produce_block.Goals as goal

pub returns : goal.returns
returns g c = block_told _ c.in_ok-block.block c.in_ok-output.output c.in_ok-notes.notes c.in_ok-block.ensures
    (c.in_ok-output.ensures.after c.in_ok-block.block.record refl)
    (c.in_ok-notes.ensures ∙ ap refused_lines c.as_slice.ensures)

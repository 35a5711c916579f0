use Rattle.std.proofs.Common.{List, ℕ, take, ◌++◌, ap, sym, ◌∙◌}
use Rattle.std.specs.List.{flat_map}
use Rattle.std.proofs.lemmas.List.{take_all}
use Rattle.spec_base.specs.Bytes.{sized_bytes}
use Rattle.format_fields.proofs.Adding.{Adds-none, Adds-then, Adds-as, flat_map-more}
use Rattle.block_record.proofs.writing.write_each_line.Goals as goal

pub loop-line-init : goal.loop-line-init
loop-line-init g c = Adds-none g.O.Output.holds c.args.out.now

pub loop-line-preserved : goal.loop-line-preserved
loop-line-preserved g c =
    Adds-as (Adds-then c.loop-line.invariant c.in_ok-write_sized.ensures)
    (ap (λ (x : List ℕ). flat_map sized_bytes (take c.loop-line.line-index c.args.lines.now) ++ sized_bytes x)
    c.line-item.is ∙ sym (flat_map-more sized_bytes c.args.lines.now c.loop-line.line-index
    c.line-item.result c.loop-line-test.true))

pub returns : goal.returns
returns g c = Adds-as c.loop-line.invariant (ap (flat_map sized_bytes) (take_all c.loop-line.line-index c.args.lines.now c.loop-line-test.false))

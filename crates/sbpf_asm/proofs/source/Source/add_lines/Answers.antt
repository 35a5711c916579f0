use Rattle.std.proofs.Common.{◌+◌, sym, ap, ◌∙◌, arith}
use Rattle.std.proofs.lemmas.Bool.Decides.{nat_tests}
use Rattle.std.proofs.lemmas.Result.{err_from_is_err_and}
use Rattle.sbpf_asm.specs.Assembly.{with_lines}
use Rattle.sbpf_asm.specs.Views.{source_view}
use Rattle.sbpf_asm.proofs.Sources.{lines_on, lines_stop, no_lines}
use Rattle.sbpf_asm.proofs.source.Source.add_lines.Goals as goal

pub loop-rest-preserved : goal.loop-rest-preserved
loop-rest-preserved c = record {
  same = sym (lines_on (c.loop-rest.number + 1) (source_view c.loop-rest.self) (source_view c.add_line.new.self)
      c.loop-rest.rest.now c.first_line-lines.result.1.now c.first_line-lines.result.0.now
      c.first_line-lines.ensures.lines c.in_ok-add_line.ensures.added)
      ∙ c.loop-rest.invariant.same;
  few = omega (arith, c.first_line-lines.ensures.shorter, c.loop-rest.invariant.few);
  slots = omega (arith, c.in_ok-add_line.ensures.slots, c.loop-rest.invariant.slots);
}

pub returns-in_err-add_line : goal.returns-in_err-add_line
returns-in_err-add_line c =
    let p = err_from_is_err_and c.from_residual.result c.from_residual.ensures.1 in
    rw (p.1, p.2) (lines_stop (c.loop-rest.number + 1) (source_view c.loop-rest.self) c.loop-rest.rest.now
    c.first_line-lines.result.1.now c.first_line-lines.result.0.now c.in_err-add_line.field-0.0 _
    c.first_line-lines.ensures.lines c.loop-rest.invariant.same c.in_err-add_line.ensures.added)

pub returns : goal.returns
returns c = sym c.loop-rest.invariant.same
    ∙ ap (with_lines (c.loop-rest.number + 1) (source_view c.loop-rest.self))
    (no_lines c.loop-rest.rest.now (let e = c.is_empty.ensures in grind (arith, nat_tests)))

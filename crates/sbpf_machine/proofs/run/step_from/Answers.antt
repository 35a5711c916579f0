use Rattle.std.proofs.Common.{◌<◌, ◌+◌, arith, rules, sym, ◌∙◌}
use Rattle.sbpf_verify.specs.Places.{max_slots}
use Rattle.sbpf_verify.proofs.Starts.{start_below, entry_fits}
use Rattle.sbpf_machine.proofs.Paths.{decodes_at, entry_there, fetched, row_is}
use Rattle.sbpf_machine.proofs.Stepping.{one_goes, one_spent, one_stops}
use Rattle.sbpf_machine.proofs.run.step_from.Goals as goal
use Rattle.sbpf_machine.proofs.run.step_from.Goals.{in-Next, in-Jump, in-To, in-Off}

pub returns-then-units-eq0-clause-ok : goal.returns-then-units-eq0-clause-ok
returns-then-units-eq0-clause-ok c = one_spent _ _ _ _ c.if-units-eq0.true

pub bounds-entries-place : goal.bounds-entries-place
bounds-entries-place c = entry_there c.args.program.now c.args.entries.now c.args.place c.requires.decoded c.requires.start

pub step-requires-clause-room : goal.step-requires-clause-room
step-requires-clause-room c = start_below c.args.program.now c.args.place c.requires.verified c.requires.start

pub step-requires-clause-fits : goal.step-requires-clause-fits
step-requires-clause-fits c =
    entry_fits c.args.program.now c.args.entries.now c.args.place _ c.requires.verified c.requires.decoded
    (fetched c.args.entries.now c.args.place _ (entry_there c.args.program.now c.args.entries.now c.args.place c.requires.decoded c.requires.start))
    c.requires.start

pub overflow_add-stop : goal.overflow_add-stop
overflow_add-stop c = let below : c.args.place < max_slots = start_below c.args.program.now c.args.place c.requires.verified c.requires.start in search rules

pub returns-clause-ok : goal.returns-clause-ok
returns-clause-ok c =
    let some : 0 < c.args.units = omega arith in
    let is = row_is c.args.program.now c.args.place _ c.args.context.now (decodes_at c.args.program.now c.args.entries.now c.args.place _ c.requires.decoded c.requires.start) in elim c.match-step.branch [
      | in-Next w ↦ rw w.stop-is (one_goes c.args.program.now c.args.place (c.args.place + 1) c.args.units _ c.step.new.context some (is ∙ sym w.in-Next.ensures.does))
      | in-Jump w ↦ rw w.stop-is (one_goes c.args.program.now c.args.place _ c.args.units _ c.step.new.context some (is ∙ sym w.in-Jump.ensures.does))
      | in-To w ↦ rw w.stop-is (one_goes c.args.program.now c.args.place w.in-To.other c.args.units _ c.step.new.context some (is ∙ sym w.in-To.ensures.does))
      | in-Off w ↦ rw w.stop-is (one_stops c.args.program.now c.args.place c.args.units _ c.step.new.context w.in-Off.stop some (is ∙ sym w.in-Off.ensures.does))
    ]

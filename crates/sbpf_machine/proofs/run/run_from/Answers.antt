use Rattle.std.proofs.Common.{◌≡◌, ◌<◌, ◌+◌, ◌-◌, ℕ, true, List, sym, ◌∙◌, arith, rules, refl, get_or, subst}
use Rattle.sbpf_verify.specs.Opcodes.{meaning}
use Rattle.sbpf_verify.specs.Places.{is_start, max_slots}
use Rattle.sbpf_verify.specs.declared.entry.Entry.{Entry}
use Rattle.sbpf_verify.specs.declared.opcode.Opcode.TheVariants.{Add64Immediate}
use Rattle.sbpf_verify.proofs.Starts.{start_below, entry_fits}
use Rattle.sbpf_machine.specs.declared.context.Context.{Context}
use Rattle.sbpf_machine.specs.Flows.{operands_of}
use Rattle.sbpf_machine.specs.Steps.{Go, GoesOn, Reaches, StandsBeforeStore, State, act, going}
use Rattle.sbpf_machine.proofs.Paths.{decodes_at, entry_there, fetched, row_is, on_by, spent, stop_along, stop_at, wants_at}
use Rattle.sbpf_machine.proofs.run.run_from.Goals as goal
use Rattle.sbpf_machine.proofs.run.run_from.Goals.{in-Next, in-Jump, in-To}

-- the entry of a turn of the loop
abbrev other : Entry
other = record { opcode = Add64Immediate; dst = 0; src = 0; target = 0; offset = 0; imm = 0 }

abbrev entry : goal.Joined-step → Entry
entry c = get_or c.args.entries.now c.loop-units.place other

pub loop-units-init : goal.loop-units-init
loop-units-init c = record { reached = Reaches.here; start = c.requires.start; backs = c.requires.backs }

pub bounds-entries-place : goal.bounds-entries-place
bounds-entries-place c = entry_there c.args.program.now c.args.entries.now c.loop-units.place c.requires.decoded c.loop-units.invariant.start

pub step-requires-clause-room : goal.step-requires-clause-room
step-requires-clause-room c = start_below c.args.program.now c.loop-units.place c.requires.verified c.loop-units.invariant.start

pub step-requires-clause-fits : goal.step-requires-clause-fits
step-requires-clause-fits c =
    entry_fits c.args.program.now c.args.entries.now c.loop-units.place _ c.requires.verified c.requires.decoded
    (fetched c.args.entries.now c.loop-units.place _ (entry_there c.args.program.now c.args.entries.now c.loop-units.place c.requires.decoded c.loop-units.invariant.start))
    c.loop-units.invariant.start

pub overflow_add-place : goal.overflow_add-place
overflow_add-place c =
    let below : c.loop-units.place < max_slots = start_below c.args.program.now c.loop-units.place c.requires.verified c.loop-units.invariant.start in search rules

pub returns-in-Off-clause-ends : goal.returns-in-Off-clause-ends
returns-in-Off-clause-ends c =
    stop_along _ _ c.loop-units.invariant.reached ∙
    stop_at c.args.program.now c.loop-units.place c.loop-units.units c.loop-units.context c.step.new.context c.in-Off.stop c.loop-units-test.true
    (row_is c.args.program.now c.loop-units.place _ c.loop-units.context
    (decodes_at c.args.program.now c.args.entries.now c.loop-units.place _ c.requires.decoded
    c.loop-units.invariant.start) ∙ sym c.in-Off.ensures.does)

pub returns-in-NoMemory-clause-ends : goal.returns-in-NoMemory-clause-ends
returns-in-NoMemory-clause-ends c =
    let text : List ℕ = c.args.program.now in
    let place : ℕ = c.loop-units.place in
    let begin : State = going text c.args.start c.args.context.now c.args.given in
    let is = decodes_at text c.args.entries.now place _ c.requires.decoded c.loop-units.invariant.start in
    let wants = c.in-NoMemory.ensures.want in
    subst (λ (d : Context). StandsBeforeStore begin (going text place d c.loop-units.units)) (sym wants.2)
    (record {
      reached = c.loop-units.invariant.reached;
      next = wants_at text place _ c.loop-units.context is wants.0;
      goes = subst GoesOn (sym (row_is text place _ c.loop-units.context is)) wants.1;
      going = refl;
      units = c.loop-units-test.true;
    })

-- an instruction that goes on keeps the invariant, wherever it goes
onward : (c : goal.Joined-step) (to : ℕ) → c.match-step.place ≡ to
    → Go to c.step.new.context ≡ act (meaning (entry c).opcode) c.args.program.now (operands_of (entry c))
    c.loop-units.place c.loop-units.context → is_start c.args.program.now to ≡ true →
    Reaches (going c.args.program.now c.args.start c.args.context.now c.args.given)
    (going c.args.program.now c.match-step.place c.step.new.context (c.loop-units.units - 1))
    × (is_start c.args.program.now c.match-step.place ≡ true)
onward c to same row start =
    let text : List ℕ = c.args.program.now in
    let way = on_by _ c.loop-units.place to c.loop-units.units c.loop-units.context c.step.new.context c.loop-units.invariant.reached c.loop-units-test.true
    (row_is text c.loop-units.place (entry c) c.loop-units.context (decodes_at text c.args.entries.now c.loop-units.place other c.requires.decoded c.loop-units.invariant.start) ∙ sym row) in
    rw same (way, start)

pub loop-units-preserved : goal.loop-units-preserved
loop-units-preserved c = elim c.match-step.branch [
  | in-Next w ↦ let k = onward c (c.loop-units.place + 1) w.place-is w.in-Next.ensures.does w.in-Next.ensures.lands in record { reached = k.0; start = k.1; backs = c.step.ensures.backs }
  | in-Jump w ↦ let k = onward c (entry c).target w.place-is w.in-Jump.ensures.does w.in-Jump.ensures.lands in record { reached = k.0; start = k.1; backs = c.step.ensures.backs }
  | in-To w ↦ let k = onward c w.in-To.other w.place-is w.in-To.ensures.does w.in-To.ensures.lands in record { reached = k.0; start = k.1; backs = c.step.ensures.backs }
]

pub returns-clause-ends : goal.returns-clause-ends
returns-clause-ends c = stop_along _ _ c.loop-units.invariant.reached ∙ spent c.args.program.now c.loop-units.place c.loop-units.units c.loop-units.context (omega arith)

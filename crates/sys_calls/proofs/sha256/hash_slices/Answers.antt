use Rattle.std.proofs.Common.{◌++◌, Ok, sym, ap, ◌∙◌, refl}
use Rattle.std.proofs.lemmas.Result.{err_from_is_err_and}
use Rattle.sbpf_memory.specs.Plain.{plain_memory}
use Rattle.sys_calls.proofs.Loops.{no_slice, gather-stops, gather-more, gather-done}
use Rattle.sys_calls.proofs.sha256.hash_slices.Goals as goal

pub returns-in_err-hash_slice-clause-answer : goal.returns-in_err-hash_slice-clause-answer
returns-in_err-hash_slice-clause-answer c =
    let p = err_from_is_err_and c.from_residual.result c.from_residual.ensures.1 in
    let g = sym c.loop-slice.invariant.same
    ∙ gather-stops (plain_memory c.loop-slice.memory) c.loop-slice.units c.loop-slice.invariant.done
    c.args.slices.now c.loop-slice.slice-index no_slice c.in_err-hash_slice.field-0.0 c.loop-slice-test.true
    c.in_err-hash_slice.ensures.answer in
    rw (p.1, p.2, g) refl

pub returns-in_err-hash_slice-clause-units : goal.returns-in_err-hash_slice-clause-units
returns-in_err-hash_slice-clause-units c =
    let g = sym c.loop-slice.invariant.same
    ∙ gather-stops (plain_memory c.loop-slice.memory) c.loop-slice.units c.loop-slice.invariant.done
    c.args.slices.now c.loop-slice.slice-index no_slice c.in_err-hash_slice.field-0.0 c.loop-slice-test.true
    c.in_err-hash_slice.ensures.answer in
    rw g c.in_err-hash_slice.ensures.units

pub loop-slice-preserved : goal.loop-slice-preserved
loop-slice-preserved c =
    let g = gather-more (plain_memory c.loop-slice.memory) c.loop-slice.units c.loop-slice.invariant.done
    c.args.slices.now c.loop-slice.slice-index no_slice _ c.loop-slice-test.true
    c.in_ok-hash_slice.ensures.answer in
    record {
      done = c.loop-slice.invariant.done ++ _;
      hashes = c.in_ok-hash_slice.ensures.hasher c.loop-slice.invariant.done c.loop-slice.invariant.hashes;
      same = rw (c.in_ok-hash_slice.ensures.memory, c.in_ok-hash_slice.ensures.units) (sym g ∙ c.loop-slice.invariant.same);
      memory = c.in_ok-hash_slice.ensures.memory ∙ c.loop-slice.invariant.memory;
    }

pub returns-clause-answer : goal.returns-clause-answer
returns-clause-answer c =
    let g = sym c.loop-slice.invariant.same
    ∙ gather-done (plain_memory c.loop-slice.memory) c.loop-slice.units c.loop-slice.invariant.done
    c.args.slices.now c.loop-slice.slice-index c.loop-slice-test.false in
    rw g (ap Ok (c.finalize.ensures c.loop-slice.invariant.done c.loop-slice.invariant.hashes))

pub returns-clause-units : goal.returns-clause-units
returns-clause-units c =
    let g = sym c.loop-slice.invariant.same
    ∙ gather-done (plain_memory c.loop-slice.memory) c.loop-slice.units c.loop-slice.invariant.done
    c.args.slices.now c.loop-slice.slice-index c.loop-slice-test.false in
    rw g refl

use Rattle.std.proofs.Common.{sym, ◌∙◌}
use Rattle.std.proofs.lemmas.Result.{err_from_is_err_and}
use Rattle.spec_base.proofs.Each.{each-more, each-stops, each-done}
use Rattle.sbpf_memory.specs.Plain.{plain_memory}
use Rattle.sys_calls.specs.declared.slices.Slice.{Slice}
use Rattle.sys_calls.specs.Access.{is_sys_memory, bytes_read}
use Rattle.sys_calls.specs.Slices.{all_read}
use Rattle.sys_calls.proofs.Loops.{no_slice}
use Rattle.sys_calls.proofs.program_key.read_seeds.Goals as goal

pub returns-in_err-seed : goal.returns-in_err-seed
returns-in_err-seed c =
    let p = err_from_is_err_and c.from_residual-in_err-seed.result c.from_residual-in_err-seed.ensures.1 in
    rw (p.1, p.2)
    (each-stops is_sys_memory (λ (slice : Slice). bytes_read (plain_memory c.args.memory.now) slice.addr
    slice.len) c.loop-slice.seeds c.args.slices.now c.loop-slice.slice-index no_slice
    c.in_err-seed.field-0.0 (all_read (plain_memory c.args.memory.now) c.args.slices.now)
    c.loop-slice-test.true c.in_err-seed.ensures c.loop-slice.invariant)

pub loop-slice-preserved : goal.loop-slice-preserved
loop-slice-preserved c =
    rw c.in_ok-push.ensures.ok
    (sym (each-more (λ (slice : Slice). bytes_read (plain_memory c.args.memory.now) slice.addr slice.len)
    c.loop-slice.seeds c.args.slices.now c.loop-slice.slice-index no_slice c.in_ok-seed.seed
    c.loop-slice-test.true c.in_ok-seed.ensures) ∙ c.loop-slice.invariant)

pub returns : goal.returns
returns c =
    sym c.loop-slice.invariant
    ∙ each-done (λ (slice : Slice). bytes_read (plain_memory c.args.memory.now) slice.addr slice.len) c.loop-slice.seeds c.args.slices.now c.loop-slice.slice-index c.loop-slice-test.false

use Rattle.std.proofs.Common.{[], arith, refl, sym, ap, ◌+◌, ◌∙◌}
use Rattle.std.proofs.lemmas.Grind.{common_steps}
use Rattle.std.proofs.lemmas.Result.{err_from_is_err_and}
use Rattle.spec_base.specs.Reading.{many_after}
use Rattle.spec_base.proofs.Loop.{goes_on, ends, is_done}
use Rattle.snapshot_codec.specs.SnapshotReading.{is_snapshot_memory, account_after}
use Rattle.snapshot_codec.proofs.AccountLaws.{supply-more}
use Rattle.snapshot_codec.proofs.accounts.read_accounts.Goals as goal

pub loop-init : goal.loop-init
loop-init c = rw c.in_ok-accounts.ensures (record { so_far = grind (arith, common_steps); counted = refl })

pub read_account-requires : goal.read_account-requires
read_account-requires c = rw c.as_slice.ensures c.loop.invariant.counted

pub returns-in_err-entry : goal.returns-in_err-entry
returns-in_err-entry c =
    let p = err_from_is_err_and c.from_residual-in_err-entry.result c.from_residual-in_err-entry.ensures.1 in
    rw (p.1, p.2) (ends (account_after c.args.total) is_snapshot_memory c.in_err-entry.field-0.0 c.loop.accounts
    c.args.count c.loop.counter c.loop.rest.now
    (many_after (account_after c.args.total) [] c.args.count c.args.bytes.now) c.loop-test.true
    (rw c.as_slice.ensures at c.in_err-entry.ensures.gives) c.loop.invariant.so_far)

pub loop-preserved : goal.loop-preserved
loop-preserved c =
    rw c.in_ok-push.ensures.ok (record {
      so_far = goes_on (account_after c.args.total) c.loop.accounts c.args.count c.loop.counter c.loop.rest.now
          c.in_ok-entry.entry c.in_ok-entry.after.now
          (many_after (account_after c.args.total) [] c.args.count c.args.bytes.now) c.loop-test.true
          (rw c.as_slice.ensures at c.in_ok-entry.ensures.gives) c.loop.invariant.so_far;
      counted = ap (λ n. n + c.in_ok-entry.entry.account.lamports) c.loop.invariant.counted ∙ sym (supply-more c.loop.accounts c.in_ok-entry.entry);
    })

pub returns : goal.returns
returns c = is_done (account_after c.args.total) c.loop.accounts c.args.count c.loop.counter c.loop.rest.now
    (many_after (account_after c.args.total) [] c.args.count c.args.bytes.now) c.loop-test.false
    c.loop.invariant.so_far

use Rattle.std.proofs.Common.{◌<◌, length, false, [], sym, ◌∙◌, ap, arith}
use Rattle.std.proofs.lemmas.List.{get_or-map}
use Rattle.sol_base.specs.declared.lock.Lock.{Lock}
use Rattle.sol_base.specs.Accounts.{empty_account, accounts_of}
use Rattle.bank_core.specs.Slots.{value_of}
use Rattle.lane_trials.specs.Trial.{spent}
use Rattle.lane_trials.proofs.Trials.{written_more, read_more}
use Rattle.lane_trials.proofs.tests.trial.write_locks.Goals as goal
use Rattle.lane_trials.proofs.tests.trial.write_locks.Goals.{then-lock+in_ok-spend+in_ok-new+in_ok-push, else-lock}

pub loop-i-preserved : goal.loop-i-preserved
loop-i-preserved c =
    let none : Lock = record { key = record { 0 = [] }; write = false } in
    let below : c.loop-i.i < length c.args.values.now = omega arith in
    elim c.if-lock.branch [
      | then-lock+in_ok-spend+in_ok-new+in_ok-push w ↦
          ap accounts_of (w.written-is ∙ w.in_ok-push.ensures.ok)
          ∙ written_more c.args.locks.now c.args.values.now c.loop-i.written c.loop-i.i none empty_account c.loop-i-test.true c.requires c.loop-i.invariant w.in_ok-new.field-0 w.if-lock.true
          (w.in_ok-new.ensures.ok ∙ (w.in_ok-spend.ensures
          ∙ ap spent (ap value_of w.index-values-i.is
          ∙ sym (get_or-map value_of c.args.values.now c.loop-i.i w.index-values-i.result empty_account
          below))))
      | else-lock w ↦
          ap accounts_of w.written-is
          ∙ read_more c.args.locks.now c.args.values.now c.loop-i.written c.loop-i.i none empty_account c.loop-i-test.true c.requires c.loop-i.invariant w.if-lock.false
    ]

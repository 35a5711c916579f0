use Rattle.std.proofs.Common.{◌<◌, ◌^◌, length, sym, subst, ap, arith}
use Rattle.std.specs.Arc.{arc_value}
use Rattle.sol_base.specs.declared.account.Account.{Account}
use Rattle.account_store.specs.State.{entries}
use Rattle.account_store.specs.Shared.{seen}
use Rattle.snapshot_codec.specs.Snapshot.{account_bytes}
use Rattle.format_fields.specs.Output.{Adds}
use Rattle.snapshot_codec.proofs.Walk.{begun, goes_on, ends, next_is_short, none_left}
use Rattle.snapshot_codec.proofs.writing.write_each_account.Goals as goal

pub loop-key-init : goal.loop-key-init
loop-key-init g c = begun g.O.Output.holds c.args.out.now (entries c.args.accounts.now) (seen c.iter-rest.result) c.iter-rest.ensures.entries

pub write_account-requires : goal.write_account-requires
write_account-requires g c =
    subst (λ (a : Account). length a.bytes < 2 ^ 32) (sym c.deref.ensures)
    (next_is_short (entries c.args.accounts.now) (seen c.loop-key.rest) (seen c.next.new.self)
    (c.in-Some.key.now, arc_value c.in-Some.account.now) c.iter-rest.ensures.state.held c.loop-key.invariant
    (ap seen c.in-Some.ensures.steps))

pub loop-key-preserved : goal.loop-key-preserved
loop-key-preserved g c =
    goes_on (entries c.args.accounts.now) (seen c.loop-key.rest) (seen c.next.new.self) (c.in-Some.key.now, arc_value c.in-Some.account.now) c.loop-key.invariant (ap seen c.in-Some.ensures.steps)
    (subst (λ (a : Account). Adds g.O.Output.holds c.loop-key.out c.write_account.new.out (account_bytes (c.in-Some.key.now, a))) c.deref.ensures c.in_ok-write_account.ensures)

pub loop-key-smaller : goal.loop-key-smaller
loop-key-smaller g c = omega (arith, ap length c.in-Some.ensures.steps)

pub returns : goal.returns
returns g c = ends (entries c.args.accounts.now) (seen c.loop-key.rest) c.loop-key.invariant
    (ap seen (none_left c.next.result c.loop-key.rest c.next.new.self c.in_default.not-Some
    c.next.ensures.steps))

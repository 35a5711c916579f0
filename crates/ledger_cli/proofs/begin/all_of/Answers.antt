use Rattle.std.proofs.Common.{◌≡◌, ℕ, length, Result, Ok, ap, ◌∙◌, arith}
use Rattle.snapshot_codec.specs.declared.fault.SnapshotFault.{SnapshotFault}
use Rattle.snapshot_codec.specs.declared.snapshot.Prefix.{Prefix}
use Rattle.ledger_cli.proofs.begin.all_of.Goals as goal

pub returns-clause-whole : goal.returns-clause-whole
returns-clause-whole c =
    let whole : c.args.prefix.length ≡ length c.args.bytes.now = omega (arith, c.requires.begins.within, c.if-length-bytes.false) in
    c.requires.exact ∙ ap (λ (n : ℕ). let r : Result Prefix SnapshotFault = Ok (record { snapshot = c.args.prefix.snapshot; length = n }) in r) whole

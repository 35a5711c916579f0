use Rattle.std.proofs.Common.{take}
use Rattle.std.specs.List.{flat_map}
use Rattle.sol_base.specs.Keys.{key_bytes}
use Rattle.format_fields.specs.Output.{Adds}
use Rattle.ledger_store.proofs.changes.write_keys.Given as goal

-- the keys so far
abbrev pub invariant-loop-key : goal.invariant-loop-key
invariant-loop-key g l = Adds g.O.Output.holds l.fn.out l.out (flat_map key_bytes (take l.key-index l.keys))

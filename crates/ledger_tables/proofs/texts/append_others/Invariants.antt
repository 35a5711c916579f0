use Rattle.std.proofs.Common.{◌≡◌, ◌++◌, take}
use Rattle.ledger_tables.specs.Texts.{others_json}
use Rattle.ledger_tables.proofs.texts.append_others.Given as goal

-- the keys so far
abbrev pub invariant-loop-key : goal.invariant-loop-key
invariant-loop-key l = l.text ≡ l.fn.text ++ others_json (take l.key-index l.keys)

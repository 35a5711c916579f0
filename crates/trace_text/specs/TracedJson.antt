-- Transactions and what they did as JSON (the project's own form). An object's members are in the
-- order of their names.
use Rattle.std.specs.Prelude.{ℕ, List, [], ◌∷◌, codes, Option, Some, None, Result, Ok, Err}
use Rattle.std.specs.Str.Lossy.{utf8_lossy}
use Rattle.serde_json.specs.Data.{Data, null, boolean, string, object, member, no_members}
use Rattle.json_parts.specs.Written.{hex_json, number_json, list_json}
use Rattle.sol_base.specs.declared.account.Account.{Account}
use Rattle.message_codec.specs.declared.message.Signature.{Signature}
use Rattle.tx_report.specs.declared.outcome.Outcome.{Outcome}
use Rattle.tx_report.specs.declared.status.InstructionError.{InstructionError}
use Rattle.tx_report.specs.Statuses.{cause_text_of, status_text_of}
use Rattle.admission.specs.declared.chosen.Chosen.{Chosen}
use Rattle.trace_run.specs.declared.found.Difference.{Difference}
use Rattle.trace_run.specs.declared.found.Found.{Found}

-- bytes as the text that they are, where they are UTF-8
abbrev pub text_json : List ℕ → Data
text_json bytes = string (utf8_lossy bytes)

-- what an account has
abbrev pub account_json : Account → Data
account_json account =
    object (member (codes "data") (hex_json account.bytes)
    (member (codes "executable") (boolean account.executable)
    (member (codes "lamports") (number_json account.lamports)
    (member (codes "owner") (hex_json account.owner.0) no_members))))

-- the first byte that differs
abbrev pub difference_json : Option Difference → Data
difference_json None = null
difference_json (Some differs) =
    object (member (codes "at") (number_json differs.at)
    (member (codes "is") (number_json differs.is)
    (member (codes "was") (number_json differs.was) no_members)))

-- what the region of a frame has of an account
abbrev pub found_json : Found → Data
found_json found =
    object (member (codes "byte") (difference_json found.differs)
    (member (codes "lamports") (number_json found.lamports)
    (member (codes "length") (number_json found.len)
    (member (codes "owner") (hex_json found.owner.0) no_members))))

-- how a frame ended
abbrev pub result_json : {T : Type 0} → Result T InstructionError → Data
result_json (Ok ended) = text_json (codes "Ok")
result_json (Err error) = text_json (cause_text_of error.cause error.detail)

-- the first signature
abbrev pub signature_json : List Signature → Data
signature_json [] = null
signature_json (first ∷ _) = hex_json first.0

-- a transaction, as an entry of the block, with what it came to in the record and what it did
abbrev pub transaction_json : ℕ → Chosen → Outcome → Data → Data
transaction_json entry chosen outcome events =
    object (member (codes "base_paid") (number_json outcome.base_paid)
    (member (codes "entry") (number_json entry)
    (member (codes "events") events
    (member (codes "limit") (number_json chosen.budget.limit)
    (member (codes "lines") (list_json text_json outcome.lines)
    (member (codes "position") (number_json chosen.position)
    (member (codes "priority_paid") (number_json outcome.priority_paid)
    (member (codes "signature") (signature_json chosen.tx.signatures)
    (member (codes "status") (text_json (status_text_of outcome.status))
    (member (codes "units") (number_json outcome.units) no_members))))))))))

-- Texts of the exact form.
use Rattle.std.proofs.Common.{◌≡◌, ℕ, List, String, Global, string_bytes, Result, Ok, Err, IfOk}
use Rattle.spec_base.specs.Reading.{Gives}
use Rattle.serde_json.specs.Data.{Data}
use Rattle.serde_json.specs.Read.{read}
use Rattle.json_parts.specs.declared.fault.JsonFault.{JsonFault}
use Rattle.json_parts.specs.Faults.{Read, is_json_memory}
use Rattle.bank_json.specs.Texts.{shown, TextIs}
use Rattle.bank_json.proofs.Texts.{comes_back}

-- they stand for the bytes that they were made of
pub exact_comes : (meaning : Data → Read (List ℕ)) (written : Read Data) (bytes : List ℕ)
    → ((d : Data) → written ≡ Ok d → meaning d ≡ Ok bytes) → (answer : Result (String Global) JsonFault)
    → Gives is_json_memory (λ text. read (string_bytes text)) answer (shown written)
    → IfOk answer (λ text. TextIs meaning (string_bytes text) bytes)
exact_comes meaning written bytes back (Ok text) h = comes_back meaning written (string_bytes text) bytes h back
exact_comes meaning written bytes back (Err fault) h = tt

-- Texts that hold what was written.
use Rattle.std.proofs.Common.{◌≡◌, ℕ, List, Option, Some, Ok, Err, refl, subst}
use Rattle.spec_base.specs.Reading.{Gives}
use Rattle.serde_json.specs.Data.{Data}
use Rattle.serde_json.specs.Read.{read}
use Rattle.json_parts.specs.Faults.{Read, is_json_memory}
use Rattle.bank_json.specs.Texts.{shown, TextGives, TextIs}

some_same : (d : Data) (found : Option Data) → (let r : Read (Option Data) = Ok (Some d) in r) ≡ Ok found → found ≡ Some d
some_same d found h = cc

-- what is read of a text that holds what was written for it
pub comes_back : (meaning : Data → Read (List ℕ)) (written : Read Data) (text bytes : List ℕ)
    → shown written ≡ Ok (read text) → ((d : Data) → written ≡ Ok d → meaning d ≡ Ok bytes)
    → TextIs meaning text bytes
comes_back meaning (Ok d) text bytes h back = λ answer gives.
    let there : TextGives meaning (Some d) answer = subst (λ (found : Option Data). TextGives meaning found answer) (some_same d (read text) h) gives in
    subst (λ (r : Read (List ℕ)). Gives is_json_memory (λ x. x) answer r) (back d refl) there
comes_back meaning (Err fault) text bytes h back = absurd (cc)

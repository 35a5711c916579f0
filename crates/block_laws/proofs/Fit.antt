-- What runs of a batch is known to be fit to run.
use Rattle.std.proofs.Common.{◌≡◌, ◌≤◌, ℕ, List, [], ◌∷◌, length, map, All, Result, Ok, Err, refl}
use Rattle.std.specs.List.{AllByRecursion}
use Rattle.std.proofs.lemmas.List.Elements.{All-from_recursion, recursion_from_All}
use Rattle.spec_base.specs.Bytes.{IsBytes}
use Rattle.sol_base.specs.Limits.{max_transaction_keys}
use Rattle.message_codec.specs.declared.fault.WireFault.{WireFault}
use Rattle.message_codec.specs.declared.message.Tx.{Tx}
use Rattle.message_codec.specs.declared.parsed.Parsed.{Parsed}
use Rattle.message_codec.specs.Parsing.{parsed_by, parsed_of}
use Rattle.message_codec.specs.WireReading.{wire_of}
use Rattle.message_codec.proofs.Refusals.{refused_by_bytes}
use Rattle.message_codec.proofs.WireLaws.{wire_takes}
use Rattle.admission.specs.declared.chosen.Chosen.{Chosen}
use Rattle.admission.specs.Admission.{IsSound, Start, admitted, line, listed, sifted_out, walk}
use Rattle.admission.specs.Chosen.{IsChosen}
use Rattle.admission.proofs.AnswerLaws.{StandsIn, all_run, stand_all}
use Rattle.admission.proofs.LineLaws.{all_line, weaker}

sound : (wire : List ℕ) → IsBytes wire → IsSound (parsed_of wire)
sound wire are = by_case (wire_of wire) refl
  where
    by_case : (r : Result Tx WireFault) → wire_of wire ≡ r → IsSound (parsed_by r)
    by_case (Ok tx) e = let w = wire_takes wire tx are e in (w.lists, w.signatures, refl)
    by_case (Err fault) e = refused_by_bytes wire fault e

all_sound : (wires : List (List ℕ)) → AllByRecursion IsBytes wires → AllByRecursion IsSound (map parsed_of wires)
all_sound [] are = tt
all_sound (wire ∷ wires) are = (sound wire are.0, all_sound wires are.1)

module _ (start : Start) (wires : List (List ℕ)) (few : start.limits.keys ≤ max_transaction_keys) (are : All IsBytes wires) where
  abbrev batch : List Parsed
  batch = map parsed_of wires

  abbrev Stands : Chosen → Type 0
  Stands = StandsIn 0 (length batch)

  standing : AllByRecursion Stands (sifted_out start batch)
  standing = stand_all start batch few (all_sound wires (recursion_from_All IsBytes wires are))

  run_chosen : (found : List Chosen) → AllByRecursion Stands found → All IsChosen (walk start.limits found).order
  run_chosen found all =
      All-from_recursion IsChosen (walk start.limits found).order (weaker Stands IsChosen (λ one is. is.is) (walk start.limits found).order (all_run Stands start.limits found all))

  -- those that run by priority
  pub admitted_are_chosen : All IsChosen (admitted start wires).order
  unfolding admitted
  admitted_are_chosen = run_chosen (line (sifted_out start batch)) (all_line Stands (sifted_out start batch) standing)

  -- and those that run by position
  pub listed_are_chosen : All IsChosen (listed start wires).order
  unfolding listed
  listed_are_chosen = run_chosen (sifted_out start batch) standing

-- Wires that weigh alone, and a batch of them.
use Rattle.std.proofs.Common.{◌≡◌, ℕ, zero, suc, ◌+◌, Bool, List, [], ◌∷◌, ◌++◌, length, take, map, refl, ap, ◌∙◌, append_assoc, sym, subst, arith, Some, None, Result, Ok, Err, is_ok, length-append}
use Rattle.std.specs.Prelude.{if◌then◌else◌}
use Rattle.std.specs.Result.{result_ok}
use Rattle.std.specs.List.{filter_map, cons_option, enumerate_from}
use Rattle.std.proofs.lemmas.List.{map-append}
use Rattle.spec_base.specs.Reading.{◌>>=◌}
use Rattle.sol_base.specs.declared.key.Hash32.{Hash32}
use Rattle.message_codec.specs.declared.message.Loaded.{Loaded}
use Rattle.message_codec.specs.declared.parsed.Parsed.{Parsed}
use Rattle.message_codec.specs.declared.parsed.Parsed.TheVariants.{Good, Bad}
use Rattle.message_codec.specs.Parsing.{parsed_of}
use Rattle.fee_rules.specs.declared.budget.Budget.{Budget}
use Rattle.fee_rules.specs.declared.budget.BudgetFault.{BudgetFault}
use Rattle.fee_rules.specs.Budgets.{budget_in}
use Rattle.status_cache.specs.Recent.{has_hash}
use Rattle.admission.specs.declared.refusal.Refusal.{Refusal}
use Rattle.admission.specs.declared.refusal.Refusal.TheVariants.{RepeatedInBatch, Budget as no_budget}
use Rattle.admission.specs.declared.weighing.Weighed.{Weighed}
use Rattle.admission.specs.Admission.{AreParsed, Start, as_cause, budgeted, chosen_with, early, refusal_in, sifted, sifted_in, sifted_out, standing_name, standing_names, stands}
use Rattle.admission.specs.Weighing.{AreWeighed, causes_among, is_among, name_of, names_of, sifted_among, sifted_when, standing_among, weighed, weighed_from, with_budget, with_loaded}
use Rattle.admission.proofs.AnswerLaws.{are_parsed}
use Rattle.admission.proofs.SiftLaws.{enumerate-append}

-- ---- one wire
-- what it weighs alone, with the names before it, is what it is sifted to
sifts : (start : Start) (has : Hash32 → Bool) (position : ℕ) (parsed : Parsed)
    → sifted_when (is_among has (name_of (weighed start position parsed))) (weighed start position parsed)
    ≡ sifted start has position parsed
unfolding weighed sifted
sifts start has position (Bad fault) = refl
sifts start has position (Good tx name) = go (stands start tx name)
  where
    by_budget : (loaded : Loaded) (r : Result Budget BudgetFault) → sifted_when (is_among has (name_of (with_budget position tx name loaded r))) (with_budget position tx name loaded r)
        ≡ (if has name then Err RepeatedInBatch else (as_cause no_budget r >>= λ budget. Ok (chosen_with position tx name loaded budget)))
    by_budget loaded (Ok budget) = refl
    by_budget loaded (Err fault) = refl

    go : (a : Result Loaded Refusal) → sifted_when (is_among has (name_of (with_loaded position tx name a))) (with_loaded position tx name a)
        ≡ (a >>= λ loaded. if has name then Err RepeatedInBatch else budgeted position tx name loaded)
    go (Err cause) = refl
    go (Ok loaded) = by_budget loaded (budget_in tx.message)

name_alone : (start : Start) (position : ℕ) (parsed : Parsed) → name_of (weighed start position parsed) ≡ standing_name start parsed
unfolding weighed
name_alone start position (Bad fault) = refl
name_alone start position (Good tx name) = go (stands start tx name)
  where
    by_budget : (loaded : Loaded) (r : Result Budget BudgetFault) → name_of (with_budget position tx name loaded r) ≡ Some name
    by_budget loaded (Ok budget) = refl
    by_budget loaded (Err fault) = refl

    go : (a : Result Loaded Refusal) → name_of (with_loaded position tx name a) ≡ (if is_ok a then Some name else None)
    go (Err cause) = refl
    go (Ok loaded) = by_budget loaded (budget_in tx.message)

-- ---- a batch
names_alone : (start : Start) (n : ℕ) (batch : List Parsed) → names_of (weighed_from start n batch) ≡ standing_names start batch
names_alone start n [] = refl
names_alone start n (parsed ∷ batch) = λ i. cons_option (name_alone start n parsed i) (names_alone start (n + 1) batch i)

take_alone : (start : Start) (n k : ℕ) (batch : List Parsed) → take k (weighed_from start n batch) ≡ weighed_from start n (take k batch)
take_alone start n zero batch = refl
take_alone start n (suc k) [] = refl
take_alone start n (suc k) (parsed ∷ batch) = ap (λ more. weighed start n parsed ∷ more) (take_alone start (n + 1) k batch)

module _ (start : Start) (batch : List Parsed) where
  sifted_alone : (n : ℕ) (parsed : Parsed) → sifted_among (weighed_from start 0 batch) (n, weighed start n parsed) ≡ sifted_in start batch (n, parsed)
  sifted_alone n parsed =
      ap (λ names. sifted_when (is_among (has_hash names) (name_of (weighed start n parsed))) (weighed start n parsed)) (ap names_of (take_alone start 0 n batch) ∙ names_alone start 0 (take n batch))
      ∙ sifts start (has_hash (standing_names start (take n batch))) n parsed

  standing_from : (n : ℕ) (rest : List Parsed)
      → filter_map (λ entry. result_ok (sifted_among (weighed_from start 0 batch) entry))
      (enumerate_from n (weighed_from start n rest))
      ≡ filter_map (λ entry. result_ok (sifted_in start batch entry)) (enumerate_from n rest)
  standing_from n [] = refl
  standing_from n (parsed ∷ rest) = λ i. cons_option (result_ok (sifted_alone n parsed i)) (standing_from (n + 1) rest i)

  causes_from : (n : ℕ) (rest : List Parsed)
      → map (λ entry. refusal_in (sifted_among (weighed_from start 0 batch) entry))
      (enumerate_from n (weighed_from start n rest)) ≡ map (early start batch) (enumerate_from n rest)
  causes_from n [] = refl
  causes_from n (parsed ∷ rest) = λ i. refusal_in (sifted_alone n parsed i) ∷ causes_from (n + 1) rest i

module _ (start : Start) (wires : List (List ℕ)) (batch : List Weighed) (are : AreWeighed start wires batch) where
  pub standing_alone : standing_among batch ≡ sifted_out start (map parsed_of wires)
  standing_alone = ap standing_among are.alone ∙ standing_from start (map parsed_of wires) 0 (map parsed_of wires)

  pub causes_alone : causes_among batch ≡ map (early start (map parsed_of wires)) (enumerate_from 0 (map parsed_of wires))
  causes_alone = ap causes_among are.alone ∙ causes_from start (map parsed_of wires) 0 (map parsed_of wires)

-- wires that were read and weighed
pub are_weighed : (start : Start) (wires : List (List ℕ)) (parsed : List Parsed) (batch : List Weighed) → AreParsed wires parsed → batch ≡ weighed_from start 0 parsed → AreWeighed start wires batch
are_weighed start wires parsed batch are found =
    let same = (are_parsed wires parsed are).0 in
    record { read = subst (AreParsed wires) same are; alone = found ∙ ap (weighed_from start 0) same }

-- ---- one wire after the other
-- the first wires are weighed
pub record AreFound (start : Start) (first : ℕ) (wires done left : List Parsed) (position : ℕ) (found : List Weighed) : Type 0 where
  pub all : done ++ left ≡ wires
  pub place : position ≡ first + length done
  pub weigh : found ≡ weighed_from start first done

pub found_more : (start : Start) (first : ℕ) (wires done left more : List Parsed) (position : ℕ)
    (found found' : List Weighed) → AreFound start first wires done left position found → (x : Parsed)
    → left ≡ x ∷ more
    → found' ≡ found ++ weighed start position x ∷ [] → AreFound start first wires (done ++ x ∷ []) more (position + 1) found'
found_more start first wires done left more position found found' so_far x split put =
    let count = length-append done (x ∷ []) in
    let place = so_far.place in
    record {
      all = append_assoc done (x ∷ []) more ∙ ap (λ (ls : List Parsed). done ++ ls) (sym split) ∙ so_far.all;
      place = omega (arith, count, place);
      weigh =
          put ∙ ap (λ (ws : List Weighed). ws ++ weighed start position x ∷ []) so_far.weigh
          ∙ ap (λ n. weighed_from start first done ++ weighed start n x ∷ []) so_far.place
          ∙ sym (ap (map (λ (entry : ℕ × Parsed). weighed start entry.0 entry.1))
          (enumerate-append first done (x ∷ []))
          ∙ map-append (λ (entry : ℕ × Parsed). weighed start entry.0 entry.1) (enumerate_from first done)
          (enumerate_from (first + length done) (x ∷ [])));
    }

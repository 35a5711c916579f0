-- The answer for a batch, from its parts.
use Rattle.std.proofs.Common.{◌≡◌, ℕ, ◌<◌, ◌≤◌, List, length, map, sym, ap, ◌∙◌, subst, Option, Result, Ok, Err, IfOk, All}
use Rattle.std.specs.List.{AllByRecursion, IsDistinct, enumerate_from}
use Rattle.std.proofs.lemmas.List.{length-map}
use Rattle.std.proofs.lemmas.List.Elements.{All-from_recursion}
use Rattle.std.proofs.lemmas.List.FromFn.{length-enumerate_from}
use Rattle.sol_base.specs.Keys.{same_key}
use Rattle.sol_base.specs.declared.memory.OutOfMemory.{OutOfMemory}
use Rattle.sol_base.specs.Locks.{lock_keys}
use Rattle.sol_base.specs.Limits.{max_transaction_keys}
use Rattle.message_codec.specs.declared.parsed.Parsed.{Parsed}
use Rattle.message_codec.specs.Parsing.{parsed_of}
use Rattle.admission.specs.declared.chosen.Admitted.{Admitted}
use Rattle.admission.specs.declared.chosen.InLine.{InLine}
use Rattle.admission.specs.declared.chosen.Chosen.{Chosen}
use Rattle.admission.specs.declared.refusal.Refusal.{Refusal}
use Rattle.admission.specs.Admission.{AreParsed, IsSound, Start, admitted, answer_of, early, line, listed, sifted_out, walk}
use Rattle.admission.specs.Answers.{IsAnswer, told_by}
use Rattle.admission.specs.Chosen.{IsChosen}
use Rattle.admission.specs.Sums.{numbered_in, with_late}
use Rattle.admission.proofs.AnswerLaws.{StandsIn, all_run, are_parsed, locks_apart, stand_all}
use Rattle.admission.proofs.LineLaws.{all_line, weaker}
use Rattle.admission.proofs.WalkLaws.{refused_by_causes}

-- each transaction of the line has its place among the causes
pub places : (line : List Chosen) (to : ℕ) (causes : List (Option Refusal)) → to ≡ length causes → AllByRecursion (StandsIn 0 to) line → All (λ one. one.position < length causes) line
places line to causes e all = All-from_recursion (λ (one : Chosen). one.position < length causes) line
    (weaker (StandsIn 0 to) (λ one. one.position < length causes)
    (λ one is. subst (λ n. one.position < n) e is.below) line all)

-- and locks each of its keys once
pub aparts : (line : List Chosen) (to : ℕ) → AllByRecursion (StandsIn 0 to) line → All (λ one. IsDistinct same_key (lock_keys one.locks)) line
aparts line to all = All-from_recursion (λ (one : Chosen). IsDistinct same_key (lock_keys one.locks)) line
    (weaker (StandsIn 0 to) (λ one. IsDistinct same_key (lock_keys one.locks)) (λ one is. locks_apart one is.is)
    line all)

pub parsed_count : (wires : List (List ℕ)) (batch : List Parsed) → AreParsed wires batch → length batch ≡ length wires
parsed_count wires batch are = ap length (are_parsed wires batch are).0 ∙ simp length-map

pub all_sound : (wires : List (List ℕ)) (batch : List Parsed) → AreParsed wires batch → All IsSound batch
all_sound wires batch are = All-from_recursion IsSound batch (are_parsed wires batch are).1

pub cause_count : (start : Start) (batch : List Parsed) (causes : List (Option Refusal)) → causes ≡ map (early start batch) (enumerate_from 0 batch) → length batch ≡ length causes
cause_count start batch causes e = sym (ap length e ∙ simp (length-map, length-enumerate_from))

module _ (start : Start) (wires : List (List ℕ)) (batch : List Parsed) (few : start.limits.keys ≤ max_transaction_keys) (are : AreParsed wires batch) where
  pub stand : (standing : List Chosen) → standing ≡ sifted_out start batch → AllByRecursion (StandsIn 0 (length batch)) standing
  stand standing e = subst (AllByRecursion (StandsIn 0 (length batch))) (sym e) (stand_all start batch few (are_parsed wires batch are).1)

  pub stand_in_line : (standing found : List Chosen) → standing ≡ sifted_out start batch → found ≡ line standing → AllByRecursion (StandsIn 0 (length batch)) found
  stand_in_line standing found e l = subst (AllByRecursion (StandsIn 0 (length batch))) (sym l) (all_line (StandsIn 0 (length batch)) standing (stand standing e))

  exact : (found : List Chosen) (causes : List (Option Refusal)) (admission : Admitted) → causes ≡ map (early start batch) (enumerate_from 0 batch) → admission.order ≡ (walk start.limits found).order
      → admission.refused ≡ numbered_in (with_late (walk start.limits found).refused causes) → admission ≡ answer_of start (map parsed_of wires) (walk start.limits found)
  exact found causes admission c order refused =
      let ascending = refused ∙ ap (λ cs. numbered_in (with_late (walk start.limits found).refused cs)) c ∙ refused_by_causes start batch (walk start.limits found).refused in
      let whole : admission ≡ answer_of start batch (walk start.limits found) = λ i. record { order = order i; refused = ascending i } in
      whole ∙ ap (λ b. answer_of start b (walk start.limits found)) (are_parsed wires batch are).0

  all_chosen : (found : List Chosen) (admission : Admitted) → AllByRecursion (StandsIn 0 (length batch)) found → admission.order ≡ (walk start.limits found).order → All IsChosen admission.order
  all_chosen found admission all order =
      All-from_recursion IsChosen admission.order
      (subst (AllByRecursion IsChosen) (sym order)
      (weaker (StandsIn 0 (length batch)) IsChosen (λ one is. is.is) (walk start.limits found).order
      (all_run (StandsIn 0 (length batch)) start.limits found all)))

  -- what a walk over transactions that stand comes to
  is_answer : (found : List Chosen) (causes : List (Option Refusal)) (result : Result InLine OutOfMemory)
      → AllByRecursion (StandsIn 0 (length batch)) found
      → causes ≡ map (early start batch) (enumerate_from 0 batch)
      → IfOk result (λ a. a.order ≡ (walk start.limits found).order)
      → IfOk result (λ a. a.refused ≡ numbered_in (with_late (walk start.limits found).refused causes))
      → IfOk result (λ a. IsAnswer (answer_of start (map parsed_of wires) (walk start.limits found))
      (told_by a))
  is_answer found causes (Ok a) all c order refused = record { exact = exact found causes (told_by a) c order refused; chosen = all_chosen found (told_by a) all order }
  is_answer found causes (Err e) all c order refused = tt

  pub is_admitted : (standing found : List Chosen) (causes : List (Option Refusal))
      (result : Result InLine OutOfMemory) → standing ≡ sifted_out start batch → found ≡ line standing
      → causes ≡ map (early start batch) (enumerate_from 0 batch)
      → IfOk result (λ a. a.order ≡ (walk start.limits found).order)
      → IfOk result (λ a. a.refused ≡ numbered_in (with_late (walk start.limits found).refused causes))
      → IfOk result (λ a. IsAnswer (admitted start wires) (told_by a))
  unfolding admitted
  is_admitted standing found causes result e l c order refused =
      subst (λ ls. IfOk result (λ a. IsAnswer (answer_of start (map parsed_of wires) (walk start.limits ls)) (told_by a))) (l ∙ ap line (e ∙ ap (sifted_out start) (are_parsed wires batch are).0))
      (is_answer found causes result (stand_in_line standing found e l) c order refused)

  pub is_listed : (standing : List Chosen) (causes : List (Option Refusal)) (result : Result InLine OutOfMemory)
      → standing ≡ sifted_out start batch → causes ≡ map (early start batch) (enumerate_from 0 batch)
      → IfOk result (λ a. a.order ≡ (walk start.limits standing).order)
      → IfOk result (λ a. a.refused ≡ numbered_in (with_late (walk start.limits standing).refused causes))
      → IfOk result (λ a. IsAnswer (listed start wires) (told_by a))
  unfolding listed
  is_listed standing causes result e c order refused =
      subst (λ ls. IfOk result (λ a. IsAnswer (answer_of start (map parsed_of wires) (walk start.limits ls)) (told_by a))) (e ∙ ap (sifted_out start) (are_parsed wires batch are).0)
      (is_answer standing causes result (stand standing e) c order refused)

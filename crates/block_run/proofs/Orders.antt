-- Transactions of a batch, and the first of them.
use Rattle.std.proofs.Common.{◌≤◌, ◌∷◌, [], ℕ, zero, suc, List, length, take, All, arith}
use Rattle.std.proofs.lemmas.List.Elements.{All-take}
use Rattle.sol_base.specs.Limits.{max_transactions}
use Rattle.admission.specs.declared.chosen.Chosen.{Chosen}
use Rattle.admission.specs.declared.chosen.Admitted.{Admitted}
use Rattle.admission.specs.declared.refusal.Refused.{Refused}
use Rattle.admission.specs.Chosen.{IsChosen}
use Rattle.admission.specs.Batches.{IsOf, IsParted}
use Rattle.block_run.specs.Blocks.{before_refused}
use Rattle.block_end.specs.Ending.{AreOf}
use Rattle.spec_base.proofs.Lists.{length-take-most}

pub length-take-least : {X : Type 0} (n : ℕ) (xs : List X) → length (take n xs) ≤ n
length-take-least zero xs = omega arith
length-take-least (suc n) [] = omega arith
length-take-least (suc n) (x ∷ xs) = let rest = length-take-least n xs in omega (arith, rest)

-- those that run are of their wires
pub parted_are_of : (wires : List (List ℕ)) (answer : Admitted) → length wires ≤ max_transactions → IsParted wires answer → AreOf wires answer.order
parted_are_of wires answer few parted = record {
  few = let c = parted.count in omega (arith, c, few);
  each = parted.each;
}

-- and so are the first of them
pub first_are_of : (wires : List (List ℕ)) (n : ℕ) (order : List Chosen) → AreOf wires order → AreOf wires (take n order)
first_are_of wires n order of = record {
  few = let l = length-take-most n order in let f = of.few in omega (arith, l, f);
  each = All-take (IsOf wires) n order of.each;
}

pub before_are_of : (wires : List (List ℕ)) (refused : List Refused) (order : List Chosen) → AreOf wires order → AreOf wires (before_refused refused order)
before_are_of wires [] order of = of
before_are_of wires (one ∷ others) order of = first_are_of wires one.position order of

pub before_are_chosen : (refused : List Refused) (order : List Chosen) → All IsChosen order → All IsChosen (before_refused refused order)
before_are_chosen [] order chosen = chosen
before_are_chosen (one ∷ others) order chosen = All-take IsChosen one.position order chosen

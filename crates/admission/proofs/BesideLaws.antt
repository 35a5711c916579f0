-- Wires that are weighed beside each other weigh what they weigh alone.
use Rattle.std.proofs.Common.{◌≡◌, ℕ, suc, ◌+◌, ◌<◌, List, [], ◌∷◌, ◌++◌, length, map, get_or, refl, sym, ap, ◌∙◌, subst, arith, Option, Some, IfSome, Result, Ok, Err, IfOk, All}
use Rattle.std.proofs.lemmas.List.{length-map}
use Rattle.std.proofs.lemmas.List.Elements.{All-map}
use Rattle.std.specs.BTreeSet.{BTreeSet}
use Rattle.sol_base.specs.declared.key.Hash32.{Hash32}
use Rattle.sol_base.specs.declared.memory.OutOfMemory.{OutOfMemory}
use Rattle.message_codec.specs.declared.parsed.Parsed.{Parsed}
use Rattle.status_cache.specs.declared.recent.Mark.{Mark}
use Rattle.admission.specs.declared.beside.Slot.{Slot}
use Rattle.admission.specs.declared.weighing.Weighed.{Weighed}
use Rattle.admission.specs.Admission.{IsSound, Start}
use Rattle.admission.specs.Beside.{IsFresh, WeighsAt, found_in, fresh}
use Rattle.admission.specs.Weighing.{IsTold, is_noted, weighed, weighed_from}

pub all_fresh : (marks : List Mark) (noted : BTreeSet Hash32) (wires : List Parsed) (slots : List Slot)
    → slots ≡ map fresh wires → All IsSound wires → All (λ wire. IsTold marks wire (is_noted noted wire)) wires
    → All (IsFresh marks noted) slots
all_fresh marks noted wires slots e sound told = subst (All (IsFresh marks noted)) (sym e) (All-map (IsFresh marks noted) fresh wires (λ k d below. (sound k d below, told k d below)))

alone_from : (start : Start) (n : ℕ) (wires : List Parsed) (new : List Slot) (found : List Weighed) → length new ≡ length wires
    → ((i : ℕ) (d : Slot) → i < length wires
    → WeighsAt start (n + i) (get_or (map fresh wires) i d) (get_or new i d))
    → map (λ (one : Weighed). Some one) found ≡ map found_in new → found ≡ weighed_from start n wires
alone_from start n [] [] [] count each is = refl
alone_from start n [] [] (one ∷ found) count each is = absurd (cc)
alone_from start n [] (slot ∷ new) found count each is = absurd (omega arith)
alone_from start n (wire ∷ wires) [] found count each is = absurd (omega arith)
alone_from start n (wire ∷ wires) (slot ∷ new) [] count each is = absurd (cc)
alone_from start n (wire ∷ wires) (slot ∷ new) (one ∷ found) count each is =
    let head : found_in slot ≡ Some one = cc in
    let tail : map (λ (one : Weighed). Some one) found ≡ map found_in new = cc in
    let here : IfSome (found_in slot) (λ w. w ≡ weighed start (n + 0) wire) = each 0 slot (omega arith) in
    let at : n + 0 ≡ n = omega arith in
    let first : one ≡ weighed start n wire = subst (λ (o : Option Weighed). IfSome o (λ w. w ≡ weighed start (n + 0) wire)) head here ∙ ap (λ k. weighed start k wire) at in
    let others : found ≡ weighed_from start (n + 1) wires =
    alone_from start (n + 1) wires new found (omega arith)
    (λ k d below. subst (λ m. WeighsAt start m (get_or (map fresh wires) k d) (get_or new k d)) (onward k)
    (each (suc k) d (omega arith))) tail in
    λ i. first i ∷ others i
  where
    onward : (k : ℕ) → n + suc k ≡ n + 1 + k
    onward k = omega arith

pub found_alone : (start : Start) (wires : List Parsed) (old new : List Slot) (found : List Weighed) → old ≡ map fresh wires → length new ≡ length wires
    → ((i : ℕ) (d : Slot) → i < length old → WeighsAt start i (get_or old i d) (get_or new i d)) → map (λ (one : Weighed). Some one) found ≡ map found_in new → found ≡ weighed_from start 0 wires
found_alone start wires old new found e count each is =
    alone_from start 0 wires new found count
    (λ k d below. subst (λ m. WeighsAt start m (get_or (map fresh wires) k d) (get_or new k d)) (zeroth k)
    (subst (λ (slots : List Slot). WeighsAt start k (get_or slots k d) (get_or new k d)) e
    (each k d (subst (λ n. k < n) (sym (ap length e ∙ simp length-map)) below)))) is
  where
    zeroth : (k : ℕ) → k ≡ 0 + k
    zeroth k = omega arith

pub found_all : (start : Start) (wires : List Parsed) (old new slots : List Slot) (result : Result (List Weighed) OutOfMemory) → old ≡ map fresh wires → length new ≡ length wires
    → ((i : ℕ) (d : Slot) → i < length old → WeighsAt start i (get_or old i d) (get_or new i d)) → slots ≡ new → IfOk result (λ found. map (λ (one : Weighed). Some one) found ≡ map found_in slots)
    → IfOk result (λ found. found ≡ weighed_from start 0 wires)
found_all start wires old new slots (Ok found) e count each same is = found_alone start wires old new found e count each (is ∙ ap (map found_in) same)
found_all start wires old new slots (Err _) e count each same is = tt

-- what the first slots have is taken out
pub record AreTaken (slots done left : List Slot) (found : List Weighed) : Type 0 where
  pub all : done ++ left ≡ slots
  pub each : map (λ (one : Weighed). Some one) found ≡ map found_in done

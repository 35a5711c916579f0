-- How many transactions of a batch run.
use Rattle.std.proofs.Common.{◌≡◌, ℕ, ◌<◌, List, length, sym, ap, subst, arith}
use Rattle.admission.specs.declared.chosen.Chosen.{Chosen}
use Rattle.admission.specs.declared.chosen.Admitted.{Admitted}
use Rattle.admission.specs.Admission.{Start, admitted}
use Rattle.admission.specs.Batches.{IsParted}
use Rattle.admission.proofs.PartLaws.{admitted_batches_are_parted}

-- no more of them than there are
pub few_run : (start : Start) (wires : List (List ℕ)) (answer : Admitted) (order : List Chosen) (most : ℕ)
    → answer ≡ admitted start wires → order ≡ answer.order → length wires < most → length order < most
few_run start wires answer order most is same few =
    let parted = subst (λ (one : Admitted). IsParted wires one) (sym is) (admitted_batches_are_parted start wires) in
    let count = parted.count in
    let e = ap length same in
    omega (arith, count, e, few)

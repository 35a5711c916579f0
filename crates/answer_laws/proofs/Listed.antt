-- A list of transactions of which none is refused.
use Rattle.std.proofs.Common.{◌≡◌, ◌+◌, ◌≤◌, ◌<◌, ℕ, List, [], ◌∷◌, ◌++◌, length, map, fold, Option, Some, None, refl, sym, ap, ap₂, subst, ◌∙◌, append_assoc, append-nil, length-append, arith}
use Rattle.std.specs.List.{AllByRecursion}
use Rattle.std.proofs.lemmas.List.{get_or_at}
use Rattle.std.proofs.lemmas.List.Elements.{recursion_from_All}
use Rattle.sol_base.specs.declared.limits.Limits.{Limits}
use Rattle.message_codec.specs.Parsing.{parsed_of}
use Rattle.admission.specs.declared.chosen.Admitted.{Admitted}
use Rattle.admission.specs.declared.chosen.Chosen.{Chosen}
use Rattle.admission.specs.declared.refusal.Refusal.{Refusal}
use Rattle.admission.specs.Admission.{Start, Walk, late, listed, sifted_out, walk_with}
use Rattle.admission.specs.Batches.{IsOf, IsParted, wire_in}
use Rattle.admission.proofs.LineLaws.{PositionsAscend}
use Rattle.admission.proofs.PartLaws.{listed_batches_are_parted, standing_positions_ascend}
use Rattle.block_laws.specs.Again.{wires_in}

-- ---- a walk keeps the order of positions
without_one : (done : List Chosen) (one : Chosen) (left : List Chosen) → PositionsAscend (done ++ one ∷ left) → PositionsAscend (done ++ left)
without_one [] one left up = up.1
without_one (t ∷ done) one left up = (here done up.0, without_one done one left up.1)
  where
    here : (done : List Chosen) → AllByRecursion (λ other. t.position < other.position) (done ++ one ∷ left) → AllByRecursion (λ other. t.position < other.position) (done ++ left)
    here [] all = all.1
    here (d ∷ done) all = (all.0, here done all.1)

walked_ascend : (limits : Limits) (before : Walk) (left : List Chosen) → PositionsAscend (before.order ++ left)
    → PositionsAscend (fold (λ before one. walk_with before one (late limits before.order one)) before left).order
walked_ascend limits before [] up = subst PositionsAscend (append-nil before.order) up
walked_ascend limits before (one ∷ left) up = go (late limits before.order one) (λ walk. walked_ascend limits walk left)
  where
    go : (o : Option Refusal) → ((walk : Walk) → PositionsAscend (walk.order ++ left)
        → PositionsAscend (fold (λ before one. walk_with before one (late limits before.order one)) walk left).order)
        → PositionsAscend (fold (λ before one. walk_with before one (late limits before.order one)) (walk_with before one o) left).order
    go None more = more (walk_with before one None) (subst PositionsAscend (sym (append_assoc before.order (one ∷ []) left)) up)
    go (Some cause) more = more (walk_with before one (Some cause)) (without_one before.order one left up)

-- those of a list that run ascend by their positions
pub listed_ascend : (start : Start) (wires : List (List ℕ)) → PositionsAscend (listed start wires).order
unfolding listed
listed_ascend start wires =
    walked_ascend start.limits (record { order = []; refused = [] }) (sifted_out start (map parsed_of wires)) (standing_positions_ascend start (map parsed_of wires))

-- ---- positions that ascend without a gap
-- they are the numbers from one on
abbrev Numbered : ℕ → List Chosen → Type 0
Numbered n [] = Unit {0}
Numbered n (one ∷ others) = (one.position ≡ n) × Numbered (n + 1) others

no_gap : (n : ℕ) (order : List Chosen) → PositionsAscend order → AllByRecursion (λ one. n ≤ one.position) order
    → AllByRecursion (λ one. one.position < n + length order) order → Numbered n order
no_gap n [] up least most = tt
no_gap n (one ∷ others) up least most =
    let rest = no_gap (n + 1) others up.1 (higher others up.0) (below others most.1) in
    (first others rest up.0 most.0, rest)
  where
    higher : (others : List Chosen) → AllByRecursion (λ other. one.position < other.position) others → AllByRecursion (λ other. n + 1 ≤ other.position) others
    higher [] all = tt
    higher (other ∷ others) all = (omega (arith, all.0, least.0), higher others all.1)

    below : (more : List Chosen) → AllByRecursion (λ other. other.position < n + length (one ∷ others)) more → AllByRecursion (λ other. other.position < n + 1 + length others) more
    below [] all = tt
    below (other ∷ more) all = (omega (arith, all.0), below more all.1)

    first : (others : List Chosen) → Numbered (n + 1) others → AllByRecursion (λ other. one.position < other.position) others → one.position < n + length (one ∷ others) → one.position ≡ n
    first [] rest all most = omega (arith, most, least.0)
    first (other ∷ others) rest all most = omega (arith, rest.0, all.0, least.0)

-- the wires at such positions are the wires
wires_again : (done wires : List (List ℕ)) (order : List Chosen) → Numbered (length done) order → length order ≡ length wires → wires_in (done ++ wires) order ≡ wires
wires_again done [] [] numbered count = refl
wires_again done [] (one ∷ others) numbered count = absurd (omega (arith, count))
wires_again done (wire ∷ wires) [] numbered count = absurd (omega (arith, count))
wires_again done (wire ∷ wires) (one ∷ others) numbered count =
    let here : wire_in (done ++ wire ∷ wires) one.position ≡ wire = get_or_at done wire wires [] one.position (sym numbered.0) in
    let next : length done + 1 ≡ length (done ++ wire ∷ []) = omega (arith, length-append done (wire ∷ [])) in
    let more : wires_in (done ++ wire ∷ wires) others ≡ wires =
    ap (λ (ws : List (List ℕ)). wires_in ws others) (sym (append_assoc done (wire ∷ []) wires))
    ∙ wires_again (done ++ wire ∷ []) wires others (subst (λ n. Numbered n others) next numbered.1) (omega (arith, count)) in
    ap₂ (λ (w : List ℕ) (ws : List (List ℕ)). w ∷ ws) here more

-- where none is refused, those that run have all the wires, in their order
pub whole_list : (start : Start) (wires : List (List ℕ)) → (listed start wires).refused ≡ [] → wires_in wires (listed start wires).order ≡ wires
whole_list start wires none =
    let answer : Admitted = listed start wires in
    let parted : IsParted wires answer = listed_batches_are_parted start wires in
    let refused : length answer.refused ≡ 0 = ap length none in
    let count : length answer.order ≡ length wires = let c = parted.count in omega (arith, c, refused) in
    let each = recursion_from_All (IsOf wires) answer.order parted.each in
    wires_again [] wires answer.order (no_gap 0 answer.order (listed_ascend start wires) (least answer.order) (most answer.order (length answer.order) (sym count) each)) count
  where
    least : (order : List Chosen) → AllByRecursion (λ one. 0 ≤ one.position) order
    least [] = tt
    least (one ∷ others) = (omega arith, least others)

    most : (order : List Chosen) (n : ℕ) → length wires ≡ n → AllByRecursion (IsOf wires) order → AllByRecursion (λ one. one.position < 0 + n) order
    most [] n long all = tt
    most (one ∷ others) n long all = (let b = all.0.below in omega (arith, b, long), most others n long all.1)

-- What was admitted is admitted again, alone and in its order.
use Rattle.std.proofs.Common.{◌≡◌, ◌+◌, ◌&&◌, ◌||◌, ℕ, Bool, true, false, cond, List, [], ◌∷◌, ◌++◌, length, map, take, filter, fold, Option, Some, None, Result, Ok, Err, refl, sym, ap, subst, ◌∙◌, append_assoc, append-nil, length-append, arith}
use Rattle.std.specs.Prelude.{nat_lt, option_map, if◌then◌else◌}
use Rattle.std.specs.Result.{result_ok}
use Rattle.std.specs.List.{AllByRecursion, IsDistinct, cons_option, enumerate_from, filter_map, list_any}
use Rattle.std.specs.List.Sorted.{IsPermutation}
use Rattle.std.proofs.lemmas.List.{length-map, map-append, take_at}
use Rattle.std.proofs.lemmas.List.Elements.{All-from_recursion, recursion_from_All}
use Rattle.std.proofs.lemmas.List.Sorted.{All-permutation}
use Rattle.std.proofs.lemmas.List.Sums.{sum_by-cons}
use Rattle.spec_base.specs.Reading.{◌>>=◌}
use Rattle.sol_base.specs.declared.key.Hash32.{Hash32}
use Rattle.sol_base.specs.declared.key.Key.{Key}
use Rattle.sol_base.specs.declared.limits.Limits.{Limits}
use Rattle.sol_base.specs.Keys.{same_hash}
use Rattle.message_codec.specs.declared.message.Loaded.{Loaded}
use Rattle.message_codec.specs.declared.parsed.Parsed.{Parsed}
use Rattle.message_codec.specs.declared.parsed.Parsed.TheVariants.{Good, Bad}
use Rattle.message_codec.specs.Parsing.{parsed_of}
use Rattle.fee_rules.specs.declared.budget.Budget.{Budget}
use Rattle.fee_rules.specs.declared.budget.BudgetFault.{BudgetFault}
use Rattle.fee_rules.specs.Budgets.{budget_in}
use Rattle.status_cache.specs.Recent.{has_hash}
use Rattle.admission.specs.declared.chosen.Admitted.{Admitted}
use Rattle.admission.specs.declared.chosen.Chosen.{Chosen}
use Rattle.admission.specs.declared.refusal.Refusal.{Refusal}
use Rattle.admission.specs.declared.refusal.Refusal.TheVariants.{Budget as no_budget, BlockUnits, KeyUnits, RepeatedInBatch}
use Rattle.admission.specs.declared.refusal.Refused.{Refused}
use Rattle.admission.specs.Admission.{Start, Walk, admitted, answer_of, as_cause, budgeted, budgeted_once, chosen_with, late, line, listed, may_write_key, refusal, refusal_in, sifted, sifted_in, sifted_out, standing_name, standing_names, stands, units_of, units_on, walk, walk_with}
use Rattle.admission.specs.Batches.{IsOf, wire_in}
use Rattle.admission.proofs.AnswerLaws.{all_run}
use Rattle.admission.proofs.LineLaws.{line_permutes}
use Rattle.admission.proofs.PartLaws.{admitted_batches_are_parted, all_standing}
use Rattle.admission.proofs.SiftLaws.{name_stands, sifted_once}
use Rattle.block_laws.specs.Again.{AreAdmittedAgain, all_of, renumbered, wires_in}

-- a transaction wherever it stands
abbrev pub unplaced : Chosen → Chosen
unplaced t = record t { position = 0 }

pub renumbered_alike : (n : ℕ) (ts : List Chosen) → map unplaced (renumbered n ts) ≡ map unplaced ts
renumbered_alike n [] = refl
renumbered_alike n (t ∷ ts) = ap (λ (l : List Chosen). unplaced t ∷ l) (renumbered_alike (n + 1) ts)

-- ---- one that stands
-- its keys load and its budget is the same wherever it stands
record Stands (start : Start) (t : Chosen) : Type 0 where
  pub loads : stands start t.tx t.name ≡ Ok t.loaded
  pub priced : (n : ℕ) → budgeted n t.tx t.name t.loaded ≡ Ok (record t { position = n })

stands_alone : (start : Start) (is_before : Hash32 → Bool) (position : ℕ) (parsed : Parsed) (t : Chosen) → sifted start is_before position parsed ≡ Ok t → Stands start t
unfolding sifted
stands_alone start is_before position (Bad fault) t e = absurd (cc)
stands_alone start is_before position (Good tx name) t e = go (stands start tx name) refl (is_before name) (budget_in tx.message) refl e
  where
    go : (a : Result Loaded Refusal) → stands start tx name ≡ a → (b : Bool) → (r : Result Budget BudgetFault) → budget_in tx.message ≡ r
        → (a >>= λ loaded. if b then Err RepeatedInBatch else (as_cause no_budget r >>= λ budget. Ok (chosen_with position tx name loaded budget))) ≡ Ok t → Stands start t
    go (Err cause) ea b r er e = absurd (cc)
    go (Ok loaded) ea true r er e = absurd (cc)
    go (Ok loaded) ea false (Err fault) er e = absurd (cc)
    go (Ok loaded) ea false (Ok budget) er e =
        let same : chosen_with position tx name loaded budget ≡ t = cc in
        subst (Stands start) same (record { loads = ea; priced = λ n. ap (λ (r : Result Budget BudgetFault). as_cause no_budget r >>= λ budget. Ok (chosen_with n tx name loaded budget)) er })

-- and it is admitted again where no message before it has its name
stands_again : (start : Start) (is_before : Hash32 → Bool) (n : ℕ) (parsed : Parsed) (t : Chosen)
    → Stands start t → parsed ≡ Good t.tx t.name → is_before t.name ≡ false
    → sifted start is_before n parsed ≡ Ok (record t { position = n })
stands_again start is_before n parsed t is read fresh =
    ap (sifted start is_before n) read ∙ sifted_once start is_before n t.tx t.name t.loaded is.loads
    ∙ ap (λ b. budgeted_once b n t.tx t.name t.loaded) fresh ∙ is.priced n

-- ---- a list of them
record IsAgain (start : Start) (wires : List (List ℕ)) (t : Chosen) : Type 0 where
  pub stands : Stands start t
  pub read : parsed_of (wire_in wires t.position) ≡ Good t.tx t.name

names_before : (done : List Chosen) (t : Chosen) (rest : List Chosen) → IsDistinct same_hash (map (λ one. one.name) (done ++ t ∷ rest)) → has_hash (map (λ one. one.name) done) t.name ≡ false
unfolding IsDistinct
names_before [] t rest apart = refl
names_before (d ∷ done) t rest apart = ap (λ b. b || has_hash (map (λ one. one.name) done) t.name) (here done apart.0) ∙ names_before done t rest apart.1
  where
    here : (done : List Chosen) → AllByRecursion (λ name. same_hash d.name name ≡ false) (map (λ one. one.name) (done ++ t ∷ rest)) → same_hash d.name t.name ≡ false
    here [] all = all.0
    here (other ∷ done) all = here done all.1

module _ (start : Start) (wires : List (List ℕ)) (order : List Chosen) (apart : IsDistinct same_hash (map (λ one. one.name) order)) where
  abbrev parsed_at : Chosen → Parsed
  parsed_at t = parsed_of (wire_in wires t.position)

  abbrev batch : List Parsed
  batch = map parsed_at order

  named : (ts : List Chosen) → AllByRecursion (IsAgain start wires) ts → standing_names start (map parsed_at ts) ≡ map (λ one. one.name) ts
  named [] all = refl
  named (t ∷ ts) all =
      ap (λ (o : Option Hash32). cons_option o (standing_names start (map parsed_at ts))) (ap (standing_name start) all.0.read ∙ name_stands start t.tx t.name t.loaded all.0.stands.loads)
      ∙ ap (λ (l : List Hash32). t.name ∷ l) (named ts all.1)

  sifted_again : (n : ℕ) (done : List Chosen) (t : Chosen) (rest : List Chosen) → n ≡ length done → done ++ t ∷ rest ≡ order → AllByRecursion (IsAgain start wires) done → IsAgain start wires t
      → sifted_in start batch (n, parsed_at t) ≡ Ok (record t { position = n })
  sifted_again n done t rest count whole before is =
      let front : take n batch ≡ map parsed_at done =
      ap (λ (l : List Chosen). take n (map parsed_at l)) (sym whole) ∙ ap (take n) (map-append parsed_at done (t ∷ rest))
      ∙ take_at (map parsed_at done) (map parsed_at (t ∷ rest)) n (length-map done parsed_at ∙ sym count) in
      let fresh : has_hash (standing_names start (take n batch)) t.name ≡ false =
      ap (λ (l : List Parsed). has_hash (standing_names start l) t.name) front ∙ ap (λ (l : List Hash32). has_hash l t.name) (named done before)
      ∙ names_before done t rest (subst (λ (l : List Chosen). IsDistinct same_hash (map (λ one. one.name) l)) (sym whole) apart) in
      stands_again start (has_hash (standing_names start (take n batch))) n (parsed_at t) t is.stands is.read fresh

  push_all : (done : List Chosen) (t : Chosen) → AllByRecursion (IsAgain start wires) done → IsAgain start wires t → AllByRecursion (IsAgain start wires) (done ++ t ∷ [])
  push_all [] t all is = (is, tt)
  push_all (d ∷ done) t all is = (all.0, push_all done t all.1 is)

  all_sifted : (n : ℕ) (done rest : List Chosen) → n ≡ length done → done ++ rest ≡ order → AllByRecursion (IsAgain start wires) done → AllByRecursion (IsAgain start wires) rest
      → filter_map (λ entry. result_ok (sifted_in start batch entry)) (enumerate_from n (map parsed_at rest)) ≡ renumbered n rest
  all_sifted n done [] count whole before all = refl
  all_sifted n done (t ∷ rest) count whole before all =
      ap (λ (r : Result Chosen Refusal). cons_option (result_ok r)
      (filter_map (λ entry. result_ok (sifted_in start batch entry))
      (enumerate_from (n + 1) (map parsed_at rest)))) (sifted_again n done t rest count whole before all.0)
      ∙ ap (λ (l : List Chosen). record t { position = n } ∷ l)
      (all_sifted (n + 1) (done ++ t ∷ []) rest (omega (arith, count, length-append done (t ∷ [])))
      (append_assoc done (t ∷ []) rest ∙ whole) (push_all done t before all.0) all.1)

  abbrev with_place : ℕ × Parsed → Refusal → Refused
  with_place entry cause = record { position = entry.0; cause = cause }

  none_refused : (n : ℕ) (done rest : List Chosen) → n ≡ length done → done ++ rest ≡ order → AllByRecursion (IsAgain start wires) done → AllByRecursion (IsAgain start wires) rest
      → filter_map (λ entry. option_map (λ cause. with_place entry cause) (refusal start batch [] entry)) (enumerate_from n (map parsed_at rest)) ≡ []
  none_refused n done [] count whole before all = refl
  none_refused n done (t ∷ rest) count whole before all =
      ap (λ (r : Result Chosen Refusal). cons_option (option_map (with_place (n, parsed_at t)) (refusal_in r))
      (filter_map (λ entry. option_map (λ cause. with_place entry cause) (refusal start batch [] entry))
      (enumerate_from (n + 1) (map parsed_at rest)))) (sifted_again n done t rest count whole before all.0)
      ∙ none_refused (n + 1) (done ++ t ∷ []) rest (omega (arith, count, length-append done (t ∷ []))) (append_assoc done (t ∷ []) rest ∙ whole) (push_all done t before all.0) all.1

-- ---- the walk
-- each of them runs behind those before it
abbrev AllRun : Limits → List Chosen → List Chosen → Type 0
AllRun limits done [] = Unit {0}
AllRun limits done (one ∷ left) = (late limits done one ≡ None) × AllRun limits (done ++ one ∷ []) left

run_more : (limits : Limits) (done order : List Chosen) (one : Chosen) → AllRun limits done order → late limits (done ++ order) one ≡ None → AllRun limits done (order ++ one ∷ [])
run_more limits done [] one all none = (subst (λ (l : List Chosen). late limits l one ≡ None) (append-nil done) none, tt)
run_more limits done (t ∷ order) one all none = (
  all.0,
  run_more limits (done ++ t ∷ []) order one all.1
      (subst (λ (l : List Chosen). late limits l one ≡ None) (sym (append_assoc done (t ∷ []) order)) none),
)

walked_run : (limits : Limits) (before : Walk) (left : List Chosen) → AllRun limits [] before.order
    → AllRun limits [] (fold (λ before one. walk_with before one (late limits before.order one)) before
    left).order
walked_run limits before [] all = all
walked_run limits before (one ∷ left) all = walked_run limits (walk_with before one (late limits before.order one)) left (go (late limits before.order one) refl)
  where
    go : (o : Option Refusal) → late limits before.order one ≡ o → AllRun limits [] (walk_with before one o).order
    go None e = run_more limits [] before.order one all e
    go (Some cause) e = all

walk_all : (limits : Limits) (before : Walk) (left : List Chosen) → AllRun limits before.order left
    → fold (λ before one. walk_with before one (late limits before.order one)) before left
    ≡ record before { order = before.order ++ left }
walk_all limits before [] all = ap (λ (l : List Chosen). record before { order = l }) (sym (append-nil before.order))
walk_all limits before (one ∷ left) all =
    ap (λ (o : Option Refusal). fold (λ before one. walk_with before one (late limits before.order one)) (walk_with before one o) left) all.0
    ∙ walk_all limits (walk_with before one None) left all.1
    ∙ ap (λ (l : List Chosen). record before { order = l }) (append_assoc before.order (one ∷ []) left)

-- units do not look at positions
units_alike : (ts : List Chosen) → units_of (map unplaced ts) ≡ units_of ts
units_alike [] = refl
units_alike (t ∷ ts) =
    sum_by-cons (λ (chosen : Chosen). chosen.budget.limit) (unplaced t) (map unplaced ts) ∙ ap (λ n. t.budget.limit + n) (units_alike ts)
    ∙ sym (sum_by-cons (λ (chosen : Chosen). chosen.budget.limit) t ts)

writers_alike : (key : Key) (ts : List Chosen) → filter (may_write_key key) (map unplaced ts) ≡ map unplaced (filter (may_write_key key) ts)
writers_alike key [] = refl
writers_alike key (t ∷ ts) = go (may_write_key key t) (writers_alike key ts)
  where
    go : (b : Bool) → filter (may_write_key key) (map unplaced ts) ≡ map unplaced (filter (may_write_key key) ts)
        → cond b (unplaced t ∷ filter (may_write_key key) (map unplaced ts))
        (filter (may_write_key key) (map unplaced ts))
        ≡ map unplaced (cond b (t ∷ filter (may_write_key key) ts) (filter (may_write_key key) ts))
    go true more = ap (λ (l : List Chosen). unplaced t ∷ l) more
    go false more = more

key_units_alike : (key : Key) (ts : List Chosen) → units_on key (map unplaced ts) ≡ units_on key ts
key_units_alike key ts = ap units_of (writers_alike key ts) ∙ units_alike (filter (may_write_key key) ts)

late_by : (limits : Limits) (one : Chosen) → ℕ → (Key → ℕ) → Option Refusal
late_by limits one all on =
    if nat_lt limits.block_units (all + one.budget.limit) then Some BlockUnits else
    if list_any (λ lock. lock.write && nat_lt limits.key_units (on lock.key + one.budget.limit)) one.locks then Some KeyUnits else
    None

late_alike : (limits : Limits) (done : List Chosen) (one : Chosen) → late limits (map unplaced done) (unplaced one) ≡ late limits done one
unfolding late_by
late_alike limits done one = λ i. late_by limits one (units_alike done i) (λ key. key_units_alike key done i)

run_alike : (limits : Limits) (done left : List Chosen) → AllRun limits done left → AllRun limits (map unplaced done) (map unplaced left)
run_alike limits done [] all = tt
run_alike limits done (one ∷ left) all =
    (late_alike limits done one ∙ all.0, subst (λ (l : List Chosen). AllRun limits l (map unplaced left)) (map-append unplaced done (one ∷ [])) (run_alike limits (done ++ one ∷ []) left all.1))

run_back : (limits : Limits) (done left : List Chosen) → AllRun limits (map unplaced done) (map unplaced left) → AllRun limits done left
run_back limits done [] all = tt
run_back limits done (one ∷ left) all = (
  sym (late_alike limits done one)
      ∙ all.0,
  run_back limits (done ++ one ∷ []) left
      (subst (λ (l : List Chosen). AllRun limits l (map unplaced left))
      (sym (map-append unplaced done (one ∷ []))) all.1),
)

walk_again : (limits : Limits) (found : List Chosen) → walk limits (renumbered 0 (walk limits found).order) ≡ record { order = renumbered 0 (walk limits found).order; refused = [] }
walk_again limits found =
    let order = (walk limits found).order in
    let ran : AllRun limits [] order = walked_run limits (record { order = []; refused = [] }) found tt in
    walk_all limits (record { order = []; refused = [] }) (renumbered 0 order)
    (run_back limits [] (renumbered 0 order) (subst (AllRun limits []) (sym (renumbered_alike 0 order)) (run_alike limits [] order ran)))

-- ---- a batch
module _ (start : Start) (wires : List (List ℕ)) where
  abbrev whole : List Parsed
  whole = map parsed_of wires

  each_again : AllByRecursion (Stands start) (sifted_out start whole)
  each_again = all_standing start whole (Stands start) (λ n x chosen within here e. stands_alone start (has_hash (standing_names start (take n whole))) n x chosen e)

  join : (order : List Chosen) → AllByRecursion (Stands start) order → AllByRecursion (IsOf wires) order → AllByRecursion (IsAgain start wires) order
  join [] a b = tt
  join (t ∷ ts) a b = (record { stands = a.0; read = b.0.read }, join ts a.1 b.1)

  again : (found : List Chosen) → IsPermutation (sifted_out start whole) found → (order : List Chosen)
      → order ≡ (walk start.limits found).order → AllByRecursion (IsOf wires) order
      → IsDistinct same_hash (map (λ one. one.name) order)
      → listed start (wires_in wires order) ≡ all_of order
  unfolding listed
  again found same order is of apart =
      let alone = recursion_from_All (Stands start) found
      (All-permutation (Stands start) (sifted_out start whole) found same
      (All-from_recursion (Stands start) (sifted_out start whole) each_again)) in
      let all = join order (subst (AllByRecursion (Stands start)) (sym is) (all_run (Stands start) start.limits found alone)) of in
      let parsed : map parsed_of (wires_in wires order) ≡ map (λ t. parsed_of (wire_in wires t.position)) order = map_twice order in
      let sift = all_sifted start wires order apart 0 [] order refl refl tt all in
      let none = none_refused start wires order apart 0 [] order refl refl tt all in
      let walked : walk start.limits (renumbered 0 order)
      ≡ record { order = renumbered 0 order; refused = [] } = subst
      (λ (l : List Chosen). walk start.limits (renumbered 0 l)
      ≡ record { order = renumbered 0 l; refused = [] }) (sym is) (walk_again start.limits found) in
      ap (λ (b : List Parsed). answer_of start b (walk start.limits (sifted_out start b))) parsed
      ∙ ap (λ (l : List Chosen). answer_of start (map (λ t. parsed_of (wire_in wires t.position)) order) (walk start.limits l)) sift
      ∙ ap (answer_of start (map (λ t. parsed_of (wire_in wires t.position)) order)) walked
      ∙ ap (λ (r : List Refused). let a : Admitted = record { order = renumbered 0 order; refused = r } in a) none
    where
      map_twice : (ts : List Chosen) → map parsed_of (wires_in wires ts) ≡ map (λ t. parsed_of (wire_in wires t.position)) ts
      map_twice [] = refl
      map_twice (t ∷ ts) = ap (λ (l : List Parsed). parsed_of (wire_in wires t.position) ∷ l) (map_twice ts)

  -- those that a batch admits are admitted again where they stand alone, in their order
  pub admitted_again : AreAdmittedAgain start wires
  unfolding admitted
  admitted_again =
      let parts = admitted_batches_are_parted start wires in
      again (line (sifted_out start whole)) (line_permutes (sifted_out start whole))
      (admitted start wires).order refl
      (recursion_from_All (IsOf wires) (admitted start wires).order parts.each) parts.apart

-- One walk over two lists of accounts whose keys ascend finds what a look-up finds.
use Rattle.std.proofs.Common.{◌≡◌, ℕ, false, List, [], ◌∷◌, ◌++◌, Option, Some, None, refl, sym, ap, subst, ◌∙◌}
use Rattle.std.specs.Prelude.{MatchOption}
use Rattle.std.specs.List.{AllByRecursion, flat_map}
use Rattle.std.specs.List.Sorted.{IsStrictlySortedBy}
use Rattle.std.specs.Borrow.{Bor}
use Rattle.std.specs.Cmp.{tied_back}
use Rattle.std.specs.FinMap.{get-entries}
use Rattle.std.specs.Map.{lookup, keys_of}
use Rattle.std.specs.BTreeMap.{is_at}
use Rattle.std.specs.Ordering.{is_eq, ordering_reverse}
use Rattle.std.specs.declared.cmp.Ordering.{Ordering}
use Rattle.std.specs.declared.cmp.Ordering.TheVariants.{Less, Equal, Greater}
use Rattle.std.proofs.lemmas.List.{append-nil}
use Rattle.std.proofs.lemmas.Map.{lookup-none}
use Rattle.std.proofs.lemmas.Map.Entries.{lookup_head, lookup_tail}
use Rattle.sol_base.specs.declared.key.Key.{Key}
use Rattle.sol_base.specs.declared.account.Account.{Account}
use Rattle.sol_base.specs.Keys.{key_cmp}
use Rattle.sol_base.proofs.KeyLaws.{key_cmp_total}
use Rattle.account_store.specs.State.{State, get, entries}
use Rattle.account_store.specs.Shared.{Shared, seen, seen_entry}
use Rattle.account_store.proofs.EntryLists.{find-lookup, sorted-entries}
use Rattle.text_views.specs.Fields.{only_in_a, only_in_b}
use Rattle.text_views.specs.AccountLines.{account_place, account_lines, left_by, right_by, left_lines, right_lines}
use Rattle.text_views.proofs.Walk.{goes_on}

abbrev Entry : Type 0
Entry = Key × Account

abbrev found : Key → List Entry → Option Account
found key es = lookup (is_at (key_cmp key)) es

abbrev Ascend : List Entry → Type 0
Ascend es = IsStrictlySortedBy key_cmp (keys_of es)

-- what is under each key of these is found in what is left as in all
abbrev IsLeft : List Entry → List Entry → List Entry → Type 0
IsLeft all left es = AllByRecursion (λ e. found e.0 all ≡ found e.0 left) es

-- what is left of both lists
pub record Merging (lefts rights first second : List Entry) : Type 0 where
  pub first_ascends : Ascend first
  pub second_ascends : Ascend second
  pub in_second : IsLeft rights second first
  pub in_first : IsLeft lefts first second

-- ---- a key that is below others

turned : (a b : Key) (r s : Ordering) → key_cmp a b ≡ r → ordering_reverse r ≡ s → key_cmp b a ≡ s
turned a b r s e is = key_cmp_total.antisymm b a ∙ ap ordering_reverse e ∙ is

apart : (r : Ordering) → r ≡ Greater → is_eq r ≡ false
apart r e = ap is_eq e

not_at : (low high : Key) → key_cmp low high ≡ Less → is_at (key_cmp high) low ≡ false
not_at low high e = apart (key_cmp high low) (turned low high Less Greater e refl)

not_at_high : (low high : Key) → key_cmp low high ≡ Less → is_at (key_cmp low) high ≡ false
not_at_high low high e = ap is_eq e

-- it is below all that follow
all_above : (low : Key) (e : Entry) (es : List Entry) → key_cmp low e.0 ≡ Less → Ascend (e ∷ es) → AllByRecursion (λ (x : Entry). key_cmp low x.0 ≡ Less) (e ∷ es)
unfolding IsStrictlySortedBy
all_above low e es below up = (below, each es up.0)
  where
    each : (es : List Entry) → AllByRecursion (λ (key : Key). key_cmp e.0 key ≡ Less) (keys_of es) → AllByRecursion (λ (x : Entry). key_cmp low x.0 ≡ Less) es
    each [] h = tt
    each (x ∷ xs) h = (key_cmp_total.trans low e.0 x.0 below h.0, each xs h.1)

all_behind : (e : Entry) (es : List Entry) → Ascend (e ∷ es) → AllByRecursion (λ (x : Entry). key_cmp e.0 x.0 ≡ Less) es
unfolding IsStrictlySortedBy
all_behind e es up = each es up.0
  where
    each : (es : List Entry) → AllByRecursion (λ (key : Key). key_cmp e.0 key ≡ Less) (keys_of es) → AllByRecursion (λ (x : Entry). key_cmp e.0 x.0 ≡ Less) es
    each [] h = tt
    each (x ∷ xs) h = (h.0, each xs h.1)

behind : (e : Entry) (es : List Entry) → Ascend (e ∷ es) → Ascend es
unfolding IsStrictlySortedBy
behind e es up = up.1

-- so it is not found there
absent : (low : Key) (es : List Entry) → AllByRecursion (λ (x : Entry). key_cmp low x.0 ≡ Less) es → found low es ≡ None
absent low es above = lookup-none (is_at (key_cmp low)) es (each es above)
  where
    each : (es : List Entry) → AllByRecursion (λ (x : Entry). key_cmp low x.0 ≡ Less) es → AllByRecursion (λ (x : Entry). is_at (key_cmp low) x.0 ≡ false) es
    each [] h = tt
    each (x ∷ xs) h = (not_at_high low x.0 h.0, each xs h.1)

-- and what is found under higher keys is found without it
without : (all : List Entry) (e : Entry) (left es : List Entry) → AllByRecursion (λ (x : Entry). key_cmp e.0 x.0 ≡ Less) es → IsLeft all (e ∷ left) es → IsLeft all left es
without all e left [] above h = tt
without all e left (x ∷ xs) above h =
    (h.0 ∙ lookup_tail (is_at (key_cmp x.0)) e left (not_at e.0 x.0 above.0), without all e left xs above.1 h.1)

-- ---- the steps

pub Merging-both : (s t : State) → Merging (entries s) (entries t) (entries s) (entries t)
Merging-both s t = record {
  first_ascends = sorted-entries key_cmp s;
  second_ascends = sorted-entries key_cmp t;
  in_second = all_same (entries t) (entries s);
  in_first = all_same (entries s) (entries t);
}
  where
    all_same : (all es : List Entry) → IsLeft all all es
    all_same all [] = tt
    all_same all (x ∷ xs) = (refl, all_same all xs)

module _ (lefts rights : List Entry) (e f : Entry) (first second : List Entry) (M : Merging lefts rights (e ∷ first) (f ∷ second)) where
  -- the first key is below the other
  pub first_alone : key_cmp e.0 f.0 ≡ Less → found e.0 rights ≡ None
  first_alone below = M.in_second.0 ∙ absent e.0 (f ∷ second) (all_above e.0 f second below M.second_ascends)

  pub Merging-first : key_cmp e.0 f.0 ≡ Less → Merging lefts rights first (f ∷ second)
  Merging-first below = record {
    first_ascends = behind e first M.first_ascends;
    second_ascends = M.second_ascends;
    in_second = M.in_second.1;
    in_first = without lefts e first (f ∷ second) (all_above e.0 f second below M.second_ascends) M.in_first;
  }

  -- it is above the other
  pub second_alone : key_cmp e.0 f.0 ≡ Greater → found f.0 lefts ≡ None
  second_alone above = M.in_first.0 ∙ absent f.0 (e ∷ first) (all_above f.0 e first (turned e.0 f.0 Greater Less above refl) M.first_ascends)

  pub Merging-second : key_cmp e.0 f.0 ≡ Greater → Merging lefts rights (e ∷ first) second
  Merging-second above = record {
    first_ascends = M.first_ascends;
    second_ascends = behind f second M.second_ascends;
    in_second = without rights f second (e ∷ first) (all_above f.0 e first (turned e.0 f.0 Greater Less above refl) M.first_ascends) M.in_second;
    in_first = M.in_first.1;
  }

  -- both are one
  pub other_of_first : key_cmp e.0 f.0 ≡ Equal → found e.0 rights ≡ Some f.1
  other_of_first same = M.in_second.0 ∙ lookup_head (is_at (key_cmp e.0)) f second (ap is_eq same)

  pub other_of_second : key_cmp e.0 f.0 ≡ Equal → found f.0 lefts ≡ Some e.1
  other_of_second same = M.in_first.0 ∙ lookup_head (is_at (key_cmp f.0)) e first (ap is_eq (tied_back key_cmp_total e.0 f.0 same))

  pub Merging-next : key_cmp e.0 f.0 ≡ Equal → Merging lefts rights first second
  Merging-next same = record {
    first_ascends = behind e first M.first_ascends;
    second_ascends = behind f second M.second_ascends;
    in_second = without rights f second first (above_other first (all_behind e first M.first_ascends)) M.in_second.1;
    in_first = without lefts e first second (above_one second (all_behind f second M.second_ascends)) M.in_first.1;
  }
    where
      above_other : (es : List Entry) → AllByRecursion (λ (x : Entry). key_cmp e.0 x.0 ≡ Less) es → AllByRecursion (λ (x : Entry). key_cmp f.0 x.0 ≡ Less) es
      above_other [] h = tt
      above_other (x ∷ xs) h = (sym (key_cmp_total.congr e.0 f.0 x.0 same) ∙ h.0, above_other xs h.1)

      above_one : (es : List Entry) → AllByRecursion (λ (x : Entry). key_cmp f.0 x.0 ≡ Less) es → AllByRecursion (λ (x : Entry). key_cmp e.0 x.0 ≡ Less) es
      above_one [] h = tt
      above_one (x ∷ xs) h = (key_cmp_total.congr e.0 f.0 x.0 same ∙ h.0, above_one xs h.1)

-- nothing is left of the one list
pub Merging-first_end : (lefts rights : List Entry) (e : Entry) (first : List Entry) → Merging lefts rights (e ∷ first) [] → Merging lefts rights first []
Merging-first_end lefts rights e first M = record {
  first_ascends = behind e first M.first_ascends;
  second_ascends = M.second_ascends;
  in_second = M.in_second.1;
  in_first = tt;
}

pub Merging-second_end : (lefts rights : List Entry) (f : Entry) (second : List Entry) → Merging lefts rights [] (f ∷ second) → Merging lefts rights [] second
Merging-second_end lefts rights f second M = record {
  first_ascends = M.first_ascends;
  second_ascends = behind f second M.second_ascends;
  in_second = tt;
  in_first = M.in_first.1;
}

-- a look-up in a state is one in its entries
pub get_is : (s : State) (key : Key) → get s key ≡ found key (entries s)
get_is s key = get-entries s key ∙ find-lookup key_cmp key (entries s)

-- ---- what an iterator gave, and what it has left
abbrev pub pending : Option (Bor Key × Bor Shared) → List (Key × Shared) → List (Key × Account)
pending None left = []
pending (Some e) left = seen_entry e ∷ seen left

pub pending_is : (r : Option (Bor Key × Bor Shared)) (before after : List (Key × Shared))
    → MatchOption r ((before ≡ []) × (after ≡ [])) (λ x. before ≡ (x.0.now, x.1.now) ∷ after)
    → pending r after ≡ seen before
pending_is None before after h = sym (ap seen h.0)
pending_is (Some e) before after h = sym (ap seen h)

-- ---- the walk

-- what is told so far, and the lines of what is left
pub record Walked (s t : State) (all all_others : List ℕ) (out others : List ℕ) (first second : List Entry) : Type 0 where
  pub merging : Merging (entries s) (entries t) first second
  pub told : out ++ flat_map (left_lines t) first ≡ all
  pub told_others : others ++ flat_map (right_lines s) second ≡ all_others

pub Walked-start : (s t : State) (out others : List ℕ) (first second : List Entry) → first ≡ entries s
    → second ≡ entries t → Walked s t (out ++ flat_map (left_lines t) (entries s))
    (others ++ flat_map (right_lines s) (entries t)) out others first second
Walked-start s t out others first second a b = record {
  merging = subst (λ (l : List Entry). Merging (entries s) (entries t) l second) (sym a) (subst (λ (l : List Entry). Merging (entries s) (entries t) (entries s) l) (sym b) (Merging-both s t));
  told = ap (λ (l : List Entry). out ++ flat_map (left_lines t) l) a;
  told_others = ap (λ (l : List Entry). others ++ flat_map (right_lines s) l) b;
}

module _ (s t : State) (all all_others : List ℕ) (out others : List ℕ) where
  pub Walked-less : (e f : Entry) (first second next : List Entry) (new : List ℕ)
      → Walked s t all all_others out others (e ∷ first) (f ∷ second) → key_cmp e.0 f.0 ≡ Less
      → new ≡ out ++ only_in_a (account_place e.0) → next ≡ first
      → Walked s t all all_others new others next (f ∷ second)
  Walked-less e f first second next new W below added is = subst (λ (l : List Entry). Walked s t all all_others new others l (f ∷ second)) (sym is) (record {
    merging = Merging-first (entries s) (entries t) e f first second W.merging below;
    told = goes_on (left_lines t) out new (e ∷ first) first e all refl
        (added ∙ ap (λ (o : Option Account). out ++ left_by e.0 e.1 o) (sym (get_is t e.0 ∙ first_alone (entries s) (entries t) e f first second W.merging below))) W.told;
    told_others = W.told_others;
  })

  pub Walked-greater : (e f : Entry) (first second next : List Entry) (new : List ℕ)
      → Walked s t all all_others out others (e ∷ first) (f ∷ second) → key_cmp e.0 f.0 ≡ Greater
      → new ≡ others ++ only_in_b (account_place f.0) → next ≡ second
      → Walked s t all all_others out new (e ∷ first) next
  Walked-greater e f first second next new W above added is = subst (λ (l : List Entry). Walked s t all all_others out new (e ∷ first) l) (sym is) (record {
    merging = Merging-second (entries s) (entries t) e f first second W.merging above;
    told = W.told;
    told_others = goes_on (right_lines s) others new (f ∷ second) second f all_others refl
        (added ∙ ap (λ (o : Option Account). others ++ right_by f.0 o) (sym (get_is s f.0 ∙ second_alone (entries s) (entries t) e f first second W.merging above))) W.told_others;
  })

  pub Walked-equal : (e f : Entry) (first second next next' : List Entry) (new : List ℕ)
      → Walked s t all all_others out others (e ∷ first) (f ∷ second) → key_cmp e.0 f.0 ≡ Equal
      → new ≡ out ++ account_lines e.0 e.1 f.1 → next ≡ first → next' ≡ second
      → Walked s t all all_others new others next next'
  Walked-equal e f first second next next' new W same added is is' = subst
      (λ (l : List Entry). Walked s t all all_others new others l next') (sym is)
      (subst (λ (l : List Entry). Walked s t all all_others new others first l) (sym is') (record {
        merging = Merging-next (entries s) (entries t) e f first second W.merging same;
        told = goes_on (left_lines t) out new (e ∷ first) first e all refl
            (added ∙ ap (λ (o : Option Account). out ++ left_by e.0 e.1 o) (sym (get_is t e.0 ∙ other_of_first (entries s) (entries t) e f first second W.merging same))) W.told;
        told_others = goes_on (right_lines s) others others (f ∷ second) second f all_others refl
            (sym (append-nil others) ∙ ap (λ (o : Option Account). others ++ right_by f.0 o)
            (sym (get_is s f.0 ∙ other_of_second (entries s) (entries t) e f first second W.merging same)))
            W.told_others;
      }))

  pub Walked-first : (e : Entry) (first next : List Entry) (new : List ℕ)
      → Walked s t all all_others out others (e ∷ first) [] → new ≡ out ++ only_in_a (account_place e.0)
      → next ≡ first → Walked s t all all_others new others next []
  Walked-first e first next new W added is = subst (λ (l : List Entry). Walked s t all all_others new others l []) (sym is) (record {
    merging = Merging-first_end (entries s) (entries t) e first W.merging;
    told = goes_on (left_lines t) out new (e ∷ first) first e all refl
        (added ∙ ap (λ (o : Option Account). out ++ left_by e.0 e.1 o) (sym (get_is t e.0 ∙ W.merging.in_second.0))) W.told;
    told_others = W.told_others;
  })

  pub Walked-second : (f : Entry) (second next : List Entry) (new : List ℕ)
      → Walked s t all all_others out others [] (f ∷ second) → new ≡ others ++ only_in_b (account_place f.0)
      → next ≡ second → Walked s t all all_others out new [] next
  Walked-second f second next new W added is = subst (λ (l : List Entry). Walked s t all all_others out new [] l) (sym is) (record {
    merging = Merging-second_end (entries s) (entries t) f second W.merging;
    told = W.told;
    told_others = goes_on (right_lines s) others new (f ∷ second) second f all_others refl
        (added ∙ ap (λ (o : Option Account). others ++ right_by f.0 o) (sym (get_is s f.0 ∙ W.merging.in_first.0))) W.told_others;
  })

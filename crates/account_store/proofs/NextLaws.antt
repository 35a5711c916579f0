-- The accounts after a key.
use Rattle.std.proofs.Common.{◌≡◌, ◌<◌, ◌↔◌, List, [], ◌∷◌, Option, Some, None, Bool, true, false, ◌&&◌, cond, refl, sym, ap, subst, ◌∙◌, Bor, arith}
use Rattle.std.specs.Prelude.{option_map, filter, length, slice_get, MatchOption, IfSome, IsSome}
use Rattle.std.specs.List.{AllByRecursion}
use Rattle.std.specs.List.Sorted.{IsStrictlySortedBy}
use Rattle.std.specs.Arc.{arc_value}
use Rattle.std.specs.Map.{keys_of}
use Rattle.std.specs.Cmp.{tied_itself}
use Rattle.std.specs.BTreeMap.Range.{entries_between}
use Rattle.std.specs.Ordering.{is_lt, ordering_reverse}
use Rattle.std.specs.declared.ops.Bound.TheVariants.{Excluded, Unbounded}
use Rattle.std.specs.declared.cmp.Ordering.{Ordering}
use Rattle.std.specs.declared.cmp.Ordering.TheVariants.{Less}
use Rattle.spec_base.proofs.Orders.{less}
use Rattle.sol_base.specs.declared.key.Key.{Key}
use Rattle.sol_base.specs.declared.account.Account.{Account}
use Rattle.sol_base.specs.Keys.{key_cmp}
use Rattle.sol_base.proofs.KeyLaws.{key_cmp_total}
use Rattle.account_store.specs.State.{State, entries, is_above, entries_after, next_after}
use Rattle.account_store.specs.Shared.{Shared, seen, state_seen}
use Rattle.account_store.proofs.EntryLists.{sorted-entries}
use Rattle.account_store.proofs.SharedLaws.{entries-state_seen}

-- where no key is given, all accounts come after
pub entries_after-none : (es : List (Key × Account)) → filter (λ e. is_above None e.0) es ≡ es
entries_after-none [] = refl
entries_after-none (e ∷ es) = ap (λ (l : List (Key × Account)). e ∷ l) (entries_after-none es)

-- what a step of an iterator over shared accounts shows
pub next-shown : (r : Option (Bor Key × Bor Shared)) (es rest : List (Key × Shared))
    → MatchOption r ((es ≡ []) × (rest ≡ [])) (λ x. es ≡ (x.0.now, x.1.now) ∷ rest)
    → option_map (λ (e : Bor Key × Bor Shared). let d : Key × Account = (e.0.now, arc_value e.1.now) in d) r
    ≡ slice_get (seen es) 0
next-shown None es rest h = ap (λ (l : List (Key × Shared)). slice_get (seen l) 0) (sym h.0)
next-shown (Some x) es rest h = ap (λ (l : List (Key × Shared)). slice_get (seen l) 0) (sym h)

-- what the first entry of a map shows
pub first-shown : (r : Option (Bor Key × Bor Shared)) (es : List (Key × Shared)) → (IsSome r ↔ (0 < length es))
    → IfSome r (λ p. slice_get es 0 ≡ Some (p.0.now, p.1.now))
    → option_map (λ (e : Bor Key × Bor Shared). let d : Key × Account = (e.0.now, arc_value e.1.now) in d) r
    ≡ slice_get (seen es) 0
first-shown None [] some first = refl
first-shown None (e ∷ es) some first = let no : false ≡ true = some.1 (omega arith) in absurd (cc)
first-shown (Some x) [] some first = absurd (cc)
first-shown (Some x) (e ∷ es) some first = ap (option_map (λ (d : Key × Shared). let a : Key × Account = (d.0, arc_value d.1) in a)) (sym first)

between : (k : Key) (es : List (Key × Shared)) → seen (entries_between key_cmp (Excluded k) Unbounded es) ≡ filter (λ e. is_above (Some k) e.0) (seen es)
between k [] = refl
between k (e ∷ es) = elim (is_lt (key_cmp k e.0)) as
    (λ b. seen (cond (b && true) (e ∷ entries_between key_cmp (Excluded k) Unbounded es)
    (entries_between key_cmp (Excluded k) Unbounded es))
    ≡ cond b ((e.0, arc_value e.1) ∷ filter (λ d. is_above (Some k) d.0) (seen es))
    (filter (λ d. is_above (Some k) d.0) (seen es))) [
      | true ↦ ap (λ (l : List (Key × Account)). (e.0, arc_value e.1) ∷ l) (between k es)
      | false ↦ between k es
    ]

-- the accounts of a map that stand above a key are those after it
pub entries_between-seen : (es : List (Key × Shared)) (k : Key) → IsStrictlySortedBy key_cmp (keys_of es)
    → seen (entries_between key_cmp (Excluded k) Unbounded es) ≡ entries_after (state_seen es) (Some k)
entries_between-seen es k ascends = between k es ∙ ap (filter (λ (e : Key × Account). is_above (Some k) e.0)) (sym (entries-state_seen es ascends))

pub all-seen : (es : List (Key × Shared)) → IsStrictlySortedBy key_cmp (keys_of es) → seen es ≡ entries_after (state_seen es) None
all-seen es ascends = sym (entries_after-none (seen es)) ∙ ap (filter (λ (e : Key × Account). is_above None e.0)) (sym (entries-state_seen es ascends))

-- keys that are all above a key
keeps_all : (k : Key) (es : List (Key × Account)) → AllByRecursion (λ (q : Key). key_cmp k q ≡ Less) (keys_of es) → filter (λ e. is_above (Some k) e.0) es ≡ es
keeps_all k [] h = refl
keeps_all k (e ∷ es) h = ap (λ (o : Ordering). cond (is_lt o) (e ∷ filter (λ d. is_above (Some k) d.0) es)
    (filter (λ d. is_above (Some k) d.0) es)) h.0
    ∙ ap (λ (l : List (Key × Account)). e ∷ l) (keeps_all k es h.1)

-- what is above a key that is above the given one is above that one too
further : (given : Option Key) (k q : Key) → is_above given k ≡ true → key_cmp k q ≡ Less → is_above given q ≡ true
further None k q above more = refl
further (Some g) k q above more = ap is_lt (key_cmp_total.trans g k q (less (key_cmp g k) above) more)

all_further : (given : Option Key) (k : Key) (es : List (Key × Account)) → is_above given k ≡ true
    → AllByRecursion (λ (q : Key). key_cmp k q ≡ Less) (keys_of es) → filter (λ e. is_above given e.0) es ≡ es
all_further given k [] above h = refl
all_further given k (e ∷ es) above h = ap
    (λ (b : Bool). cond b (e ∷ filter (λ d. is_above given d.0) es) (filter (λ d. is_above given d.0) es))
    (further given k e.0 above h.0)
    ∙ ap (λ (l : List (Key × Account)). e ∷ l) (all_further given k es above h.1)

pub not_itself : (k : Key) → is_above (Some k) k ≡ false
not_itself k = ap is_lt (tied_itself key_cmp_total k)

not_before : (k q : Key) → key_cmp q k ≡ Less → is_above (Some k) q ≡ false
not_before k q below = ap is_lt (key_cmp_total.antisymm k q ∙ ap ordering_reverse below)

first_kept : (P : Key → Type 0) (given : Option Key) (es : List (Key × Account)) (e : Key × Account)
    (rest : List (Key × Account)) → AllByRecursion P (keys_of es)
    → filter (λ d. is_above given d.0) es ≡ e ∷ rest → P e.0
first_kept P given [] e rest all h = absurd (cc)
first_kept P given (d ∷ es) e rest all h = by_case (is_above given d.0) (λ g. first_kept P given es e rest all.1 g) h
  where
    by_case : (b : Bool) → (filter (λ x. is_above given x.0) es ≡ e ∷ rest → P e.0) → cond b (d ∷ filter (λ x. is_above given x.0) es) (filter (λ x. is_above given x.0) es) ≡ e ∷ rest → P e.0
    by_case true later g = let same : d ≡ e = cc in subst (λ (x : Key × Account). P x.0) same all.0
    by_case false later g = later g

goes_on : (given : Option Key) (es : List (Key × Account)) (e : Key × Account) (rest : List (Key × Account))
    → IsStrictlySortedBy key_cmp (keys_of es) → filter (λ d. is_above given d.0) es ≡ e ∷ rest
    → filter (λ d. is_above (Some e.0) d.0) es ≡ rest
unfolding IsStrictlySortedBy
goes_on given [] e rest ascends h = absurd (cc)
goes_on given (d ∷ es) e rest ascends h = by_case (is_above given d.0) refl (λ g. goes_on given es e rest ascends.1 g) h
  where
    Goal : Type 0
    Goal = filter (λ x. is_above (Some e.0) x.0) (d ∷ es) ≡ rest

    by_case : (b : Bool) → is_above given d.0 ≡ b
        → (filter (λ x. is_above given x.0) es ≡ e ∷ rest → filter (λ x. is_above (Some e.0) x.0) es ≡ rest)
        → cond b (d ∷ filter (λ x. is_above given x.0) es) (filter (λ x. is_above given x.0) es) ≡ e ∷ rest
        → Goal
    by_case true is later g =
        let same : d ≡ e = cc in
        let tail : filter (λ x. is_above given x.0) es ≡ rest = cc in
        let all : es ≡ rest = sym (all_further given d.0 es is ascends.0) ∙ tail in
        let here : filter (λ x. is_above (Some d.0) x.0) (d ∷ es) ≡ es =
        ap (λ (b : Bool). cond b (d ∷ filter (λ x. is_above (Some d.0) x.0) es) (filter (λ x. is_above (Some d.0) x.0) es)) (not_itself d.0) ∙ keeps_all d.0 es ascends.0 in
        subst (λ (x : Key × Account). filter (λ y. is_above (Some x.0) y.0) (d ∷ es) ≡ rest) same (here ∙ all)
    by_case false is later g =
        let below = first_kept (λ (q : Key). key_cmp d.0 q ≡ Less) given es e rest ascends.0 g in
        ap (λ (b : Bool). cond b (d ∷ filter (λ x. is_above (Some e.0) x.0) es) (filter (λ x. is_above (Some e.0) x.0) es)) (not_before e.0 d.0 below)
        ∙ later g

-- the accounts after the next one are those after the given one without it
pub entries_after-next : (s : State) (given : Option Key) (e : Key × Account) (rest : List (Key × Account)) → entries_after s given ≡ e ∷ rest → entries_after s (Some e.0) ≡ rest
entries_after-next s given e rest h = goes_on given (entries s) e rest (sorted-entries key_cmp s) h

-- what the next account tells of those that come
pub next_after-some : (s : State) (given : Option Key) (e : Key × Account) → next_after s given ≡ Some e → entries_after s given ≡ e ∷ entries_after s (Some e.0)
next_after-some s given e h = by_case (entries_after s given) refl h
  where
    by_case : (l : List (Key × Account)) → entries_after s given ≡ l → slice_get l 0 ≡ Some e → l ≡ e ∷ entries_after s (Some e.0)
    by_case [] is g = absurd (cc)
    by_case (d ∷ rest) is g =
        let same : d ≡ e = cc in
        ap (λ (x : Key × Account). x ∷ rest) same ∙ ap (λ (l : List (Key × Account)). e ∷ l) (sym (entries_after-next s given e rest (is ∙ ap (λ (x : Key × Account). x ∷ rest) same)))

-- and no next account, that none comes
pub next_after-none : (s : State) (given : Option Key) → next_after s given ≡ None → entries_after s given ≡ []
next_after-none s given h = by_case (entries_after s given) h
  where
    by_case : (l : List (Key × Account)) → slice_get l 0 ≡ (let o : Option (Key × Account) = None in o) → l ≡ []
    by_case [] g = refl
    by_case (d ∷ rest) g = absurd (cc)

-- Each step keeps the rule of the desk.
use Rattle.std.proofs.Common.{◌≡◌, ◌≢◌, ℕ, zero, suc, ◌+◌, ◌-◌, ◌*◌, ◌%◌, ◌<◌, ◌≤◌, List, [], ◌∷◌, ◌++◌, length, set, Option, Some, None, Bool, true, cond, eqb, eq-eqb, ne_eqb, refl, sym, ap, ◌∙◌, subst, ⊎_elim, arith, All, IfSome, IfNone, MatchBool}
use Rattle.std.specs.Prelude.{slice_index}
use Rattle.std.specs.List.{range_with_len}
use Rattle.std.proofs.lemmas.Grind.{flat_map-append}
use Rattle.std.proofs.lemmas.Option.{IfSome_then}
use Rattle.std.proofs.lemmas.List.Elements.{All-append, All-cons, All-weaker}
use mathlib.Core.Option.{some, none, some-ne-none, some-injective}
use mathlib.Core.Logic.{dite}
use native.Mathlib.Decide.{ℕ_discrete, dec_le}
use lib.ListN.{get_elem?}
use lib.Seq.{set-get_or}
use prog.Atomic.{either}
use Rattle.atomic_table.specs.Table.{State, Me, Step, rest, Act, Valid, step, keeps, takes, gives, stepped, carried_after, Allows, Splits, Joins, opening}
use Rattle.atomic_table.proofs.Lists.{at_set, at_snoc, set_again}
use Rattle.spec_base.specs.Sums.{total}
use Rattle.bank_law.specs.declared.event.Event.{Event}
use Rattle.bank_shared.specs.declared.view.View.{View}
use Rattle.bank_shared.specs.declared.view.Part.{Part}
use Rattle.bank_shared.specs.History.{is_one_of, Covers}
use Rattle.bank_shared.specs.Rule.{times, part_lanes, lanes_of, stands, first_view, spent_view, new_view, joined_view, Knows, Placed, IsRuled}
use Rattle.bank_shared.specs.Plays.{holding, done, drawn_since, caught_up, looked, HasTurn, Gets, Taken, took, released}
use base.Growing.{prefix_refl}
use Rattle.bank_shared.proofs.Sums.{sum_set, sum_append, term_le, terms_le}
use Rattle.bank_shared.proofs.Owns.{times_before, times_behind, times_in, one_stands, no_lanes, grows, parts_grow}

-- a history covers itself
whole : (h : List Event) (lanes : List ℕ) → Covers h lanes h
whole h lanes = record { longer = prefix_refl h; own = refl }

module _ {C O : Type 0} (origin : C → O) (journal : C → List Event) (drawn : C → ℕ) (o : O) where
  abbrev St : Type 0
  St = State (Option C) (View O)

  abbrev Rule : St → Type 0
  Rule = IsRuled origin journal drawn o

  abbrev Homes : Type 0
  Homes = List (mathlib.Core.Option.Option (Option C))

  abbrev Put : Option ℕ → List Event → ℕ → List ℕ → Homes → Type 0
  Put holder h d ws hs = Placed origin journal drawn holder o h d ws hs

  -- what a view of other lanes knows stays
  others : (h more : List Event) (d : ℕ) (u : View O) → Knows o h d u → All (λ e. stands e.lane u ≡ 0) more → Knows o (h ++ more) d u
  others h more d u q apart =
      let split : (e : Event) → stands e.lane u ≡ times e.lane (part_lanes u.joined) + times e.lane u.lanes = λ e. sum_append (λ k. cond {A = ℕ} (eqb k e.lane) 1 0) (part_lanes u.joined) u.lanes in
      record {
        desk = q.desk;
        mine = grows h more u.lanes u.seen q.mine (All-weaker (λ (e : Event). stands e.lane u ≡ 0) (λ (e : Event). times e.lane u.lanes ≡ 0) (λ e z. omega (arith, z, split e)) more apart);
        joined = parts_grow h more u.joined
            (All-weaker (λ (e : Event). stands e.lane u ≡ 0)
            (λ (e : Event). times e.lane (part_lanes u.joined) ≡ 0) (λ e z. omega (arith, z, split e)) more
            apart) q.joined;
        drawn = q.drawn;
      }

  -- an even word: the core is at home
  at_home : (holder : Option ℕ) (h : List Event) (d : ℕ) (ws : List ℕ) (hs : Homes) → Put holder h d ws hs → slice_index ws 0 % 2 ≡ 0 → (holder ≡ None) × Put None h d ws hs
  at_home None h d ws hs p even = (refl, p)
  at_home (Some k) h d ws hs p even = let n : slice_index ws 0 ≡ 2 * length h + 1 = ap (λ (l : List ℕ). slice_index l 0) p.0 in absurd (omega arith)

  -- who has the turn
  turn_of : (s : St) (r : Rule s) (id : ℕ) (v : View O) (p : List Event × ℕ) → get_elem? s.views id ≡ some v → v.turn ≡ Some p → (r.holder ≡ Some id) × (p ≡ (r.history, r.count))
  turn_of s r id v p at is = subst (λ (x : Option (List Event × ℕ)). IfSome x (λ q. (r.holder ≡ Some id) × (q ≡ (r.history, r.count)))) is (r.turn id v at)

  -- one view changes, and the history and the number drawn stay
  stays : (s : St) (r : Rule s) (id : ℕ) (v w : View O) → get_elem? s.views id ≡ some v → (ws : List ℕ) (hs : Homes) (h : List Event) (d : ℕ) (holder : Option ℕ)
      → r.history ≡ h → r.count ≡ d → Put holder h d ws hs → IfSome w.turn (λ p. (holder ≡ Some id) × (p ≡ (h, d))) → ((j : ℕ) → j ≢ id → r.holder ≡ Some j → holder ≡ Some j)
      → Knows o h d w → ((l : ℕ) → stands l w ≡ stands l v) → Rule (record { words = ws; homes = hs; views = set s.views id w })
  stays s r id v w at ws hs h d holder same_h same_d placed turn others mine same_lanes = record {
    history = h;
    count = d;
    holder = holder;
    placed = placed;
    turn = λ j u e. ⊎_elim
        (λ (t : (j ≡ id) × (w ≡ u)). subst (λ (x : ℕ × View O). IfSome x.1.turn (λ p. (holder ≡ Some x.0) × (p ≡ (h, d)))) (λ i. (sym t.0 i, t.1 i)) turn)
        (λ (t : (j ≢ id) × (get_elem? s.views j ≡ some u)). IfSome_then u.turn (r.turn j u t.1) (λ p q. (others j t.0 q.0, q.1 ∙ λ i. (same_h i, same_d i))))
        (at_set s.views id j w u e);
    knows = λ j u e. ⊎_elim
        (λ (t : (j ≡ id) × (w ≡ u)). subst (Knows o h d) t.1 mine)
        (λ (t : (j ≢ id) × (get_elem? s.views j ≡ some u)). subst (λ (x : List Event × ℕ). Knows o x.0 x.1 u) (λ i. (same_h i, same_d i)) (r.knows j u t.1))
        (at_set s.views id j w u e);
    once = λ l below. let was = r.once l (subst (λ (k : ℕ). l < k) (sym same_d) below) in let lanes = same_lanes l in omega (arith, sum_set (stands l) s.views id v w at);
    never = λ l above. let was = r.never l (subst (λ (k : ℕ). k ≤ l) (sym same_d) above) in let lanes = same_lanes l in omega (arith, sum_set (stands l) s.views id v w at);
    later = subst (λ (x : List Event × ℕ). All (λ e. e.lane < x.1) x.0) (λ i. (same_h i, same_d i)) r.later;
  }

  -- the word is only read
  unmoved : (s : St) (r : Rule s) (id : ℕ) (cs : List (ℕ × Option C)) (v w : View O)
      → get_elem? s.views id ≡ some v → w.turn ≡ v.turn → Knows o r.history r.count w
      → ((l : ℕ) → stands l w ≡ stands l v)
      → Rule (stepped s 0 (slice_index s.words 0) id cs w keeps)
  unmoved s r id cs v w at same mine lanes =
      subst (λ (ws : List ℕ). Rule record { words = ws; homes = s.homes; views = set s.views id w }) (sym (set-get_or s.words 0 0))
      (stays s r id v w at s.words s.homes r.history r.count r.holder refl refl r.placed
      (subst (λ (x : Option (List Event × ℕ)). IfSome x
      (λ p. (r.holder ≡ Some id) × (p ≡ (r.history, r.count)))) (sym same) (r.turn id v at)) (λ j _ is. is)
      mine lanes)

  -- a look (`looked`)
  pub looks : (slots id : ℕ) (me : Me (Option C) (View O)) (st : Step (Option C)) → Allows Rule slots id me 0 (λ n. n) (looked st me)
  looks slots id me st s r len at small =
      let v = me.0 in
      let k = r.knows id v at in
      let w = caught_up v r.history in (
        w,
        keeps,
        tt,
        unmoved s r id me.1 v w at refl (record { desk = k.desk; mine = whole r.history (lanes_of v); joined = λ i d lt. absurd (omega arith); drawn = k.drawn }) (λ l. refl),
        (
          r.history,
          refl,
          k.mine,
          k.joined,
          λ l. dite (dec_le r.count l)
              (λ above. let n = r.never l above in omega (arith, n, term_le (stands l) s.views id v at))
              (λ not. let n = r.once l (grind (arith, not))
              in omega (arith, n, term_le (stands l) s.views id v at)),
        ),
      )

  -- the turn is taken (`took`)
  takes_turn : (s : St) (r : Rule s) (id old : ℕ) (v : View O) → get_elem? s.views id ≡ some v → v.origin ≡ Some o → old % 2 ≡ 0 → slice_index s.words 0 ≡ old
      → (c : C) × (get_elem? s.homes 0 ≡ some (some (Some c)))
      × Rule (stepped s 0 (old + 1) id [] (holding v (journal c) (drawn c)) (takes 0 (Some c)))
      × Taken origin journal drawn v c old (holding v (journal c) (drawn c), (0, Some c) ∷ [])
  takes_turn s r id old v at is_desk even found =
      let free = at_home r.holder r.history r.count s.words s.homes r.placed (ap (λ (n : ℕ). n % 2) found ∙ even) in
      let home = free.1 in
      let c = home.0 in
      let is_o = home.1 in
      let is_h = home.2 in
      let is_d = home.3 in
      let words = home.4 in
      let homes = home.5 in
      let len : slice_index s.words 0 ≡ 2 * length (journal c) = ap (λ (l : List ℕ). slice_index l 0) words ∙ ap (λ (h : List Event). 2 * length h) (sym is_h) in
      let known : Knows (origin c) (journal c) (drawn c) v = subst (λ (x : O × List Event × ℕ). Knows x.0 x.1 x.2 v) (λ i. (sym is_o i, sym is_h i, sym is_d i)) (r.knows id v at) in
      let w = holding v (journal c) (drawn c) in
      let mine : Knows o (journal c) (drawn c) w = let k = subst (λ (x : List Event × ℕ). Knows o x.0 x.1 v)
      (λ i. (sym is_h i, sym is_d i)) (r.knows id v at)
      in record { desk = k.desk; mine = k.mine; joined = k.joined; drawn = k.drawn } in (
        c,
        ap (λ (hs : Homes). get_elem? hs 0) homes,
        stays s r id v w at _ _ (journal c) (drawn c) (Some id) (sym is_h) (sym is_d)
            (ap (λ (l : List ℕ). set l 0 (old + 1)) words ∙ ap (λ (n : ℕ). n ∷ []) (omega (arith, len)), ap (λ (hs : Homes). set hs 0 none) homes)
            (refl, refl)
            (λ j ne is. absurd (cc (is, free.0)))
            mine (λ l. refl),
        (
          refl,
          sym found ∙ len,
          known,
          subst (λ (x : List Event × ℕ). All (λ e. e.lane < x.1) x.0) (λ i. (sym is_h i, sym is_d i)) r.later,
          λ l above. let n = r.never l (subst (λ (k : ℕ). k ≤ l) is_d above) in omega (arith, n, term_le (stands l) s.views id v at),
        ),
      )

  pub takes_or_not : (slots id old : ℕ) (v : View O) (x : mathlib.Core.Option.Option (Option C)) → v.origin ≡ Some o → old % 2 ≡ 0
      → Allows Rule slots id (v, []) 0 (λ n. either (eqb n old) (old + 1) n) (took origin journal drawn (step slots 0 old (old + 1) x) (v, []))
  takes_or_not slots id old v x is_desk even s r len at small = dite (ℕ_discrete (slice_index s.words 0) old)
      (λ is. subst (λ (b : Bool). Goal b) (sym (eq-eqb (slice_index s.words 0) old is))
      (let t = takes_turn s r id old v at is_desk even is in
      let c = t.0 in
      (holding v (journal c) (drawn c), takes 0 (Some c), t.1, t.2, (c, (t.3.0, is ∙ t.3.1, t.3.2, t.3.3, t.3.4)))))
      (λ not. subst (λ (b : Bool). Goal b) (sym (ne_eqb (slice_index s.words 0) old not))
      (v, keeps, tt, unmoved s r id [] v v at refl (r.knows id v at) (λ l. refl), refl))
    where
      Goal : Bool → Type 0
      Goal b = (w : View O) × (a : Act (Option C)) × Valid s.homes [] a × Rule (stepped s 0 (either b (old + 1) (slice_index s.words 0)) id [] w a)
          × MatchBool b ((c : C) × Taken origin journal drawn v c (slice_index s.words 0) (w, carried_after [] a)) (◌≡◌ {A = Me (Option C) (View O)} (w, carried_after [] a) (v, []))

  abbrev unslot : List (ℕ × Option C) → C → C
  unslot ((k, Some x) ∷ xs) d = x
  unslot ((k, None) ∷ xs) d = d
  unslot [] d = d

  slot_is : (c x : C) → ◌≡◌ {A = List (ℕ × Option C)} ((0, Some c) ∷ []) ((0, Some x) ∷ []) → c ≡ x
  slot_is c x e = ap (λ (l : List (ℕ × Option C)). unslot l c) e

  -- the turn is given up (`released`), with some events of the seat's lanes or none, and the seat
  -- gets the lanes that were drawn
  pub releases : (slots id new : ℕ) (v : View O) (c : C) → HasTurn v (journal c) (drawn c) → origin c ≡ o → new ≡ 2 * length (journal c)
      → Allows Rule slots id (v, (0, Some c) ∷ []) 0 (λ _. new) (λ _. released journal drawn (step slots 0 new 0 none) (v, (0, Some c) ∷ []) new)
  releases slots id new v c mine is_o is_new s r len at small =
      let t = turn_of s r id v mine.came at mine.turn in
      let more = mine.events.more in
      let theirs = mine.events.theirs in
      let same_h : journal c ≡ r.history ++ more = mine.events.after_is ∙ ap (λ (p : List Event × ℕ). p.0 ++ more) t.1 in
      let grown_d : r.count ≤ drawn c = subst (λ (p : List Event × ℕ). p.1 ≤ drawn c) t.1 mine.drawn in
      let p = subst (λ (k : Option ℕ). Put k r.history r.count s.words s.homes) t.0 r.placed in
      let k = r.knows id v at in
      let w = done v (journal c) (drawn c) in
      let fresh = range_with_len r.count (drawn c - r.count) in
      let fresh_is : drawn_since v.turn (drawn c)
      ≡ fresh = ap (λ (x : Option (List Event × ℕ)). drawn_since x (drawn c)) mine.turn
      ∙ ap (λ (p : List Event × ℕ). range_with_len p.1 (drawn c - p.1)) t.1 in
      let count : (l : ℕ) → stands l w ≡ times l fresh + stands l v = λ l. ap (λ (x : List ℕ). times l (x ++ lanes_of v)) fresh_is ∙ sum_append (λ x. cond {A = ℕ} (eqb x l) 1 0) fresh (lanes_of v) in
      let below : (e : Event) → is_one_of (lanes_of v) e.lane ≡ true
      → e.lane < r.count = λ e is. let one = one_stands e.lane (lanes_of v) is
      in dite (dec_le r.count e.lane)
      (λ above. let none_yet = r.never e.lane above
      in absurd (omega (arith, term_le (stands e.lane) s.views id v at))) (λ not. grind (arith, not)) in
      let drawn_lanes : All (λ e. e.lane < r.count) more = All-weaker (λ (e : Event). is_one_of (lanes_of v) e.lane ≡ true) (λ (e : Event). e.lane < r.count) below more theirs in
      let later : All (λ e. e.lane < r.count) (journal c) = subst
      (λ (l : List Event). All (λ e. e.lane < r.count) l) (sym same_h)
      (All-append (λ (x : Event). x.lane < r.count) r.history more r.later drawn_lanes) in
      let grown : (j : ℕ) (u : View O) → j ≢ id → get_elem? s.views j ≡ some u → Knows o (journal c) (drawn c) u =
      λ j u ne there.
      let q = r.knows j u there in
      let apart : All (λ e. stands e.lane u ≡ 0) more = All-weaker
      (λ (e : Event). is_one_of (lanes_of v) e.lane ≡ true) (λ (e : Event). stands e.lane u ≡ 0)
      (λ e is. let one = one_stands e.lane (lanes_of v) is in let once = r.once e.lane (below e is)
      in omega (arith, terms_le (stands e.lane) s.views id j v u ne at there)) more theirs in
      let known = others r.history more r.count u q apart in
      subst (λ (x : List Event). Knows o x (drawn c) u) (sym same_h)
      (record {
        desk = known.desk;
        mine = known.mine;
        joined = known.joined;
        drawn =
            (let n = known.drawn in omega (arith, n, grown_d));
      }) in (
        w,
        gives,
        tt,
        record {
          history = journal c;
          count = drawn c;
          holder = None;
          placed = (c, is_o, refl, refl, ap (λ (l : List ℕ). set l 0 new) p.0 ∙ ap (λ (n : ℕ). n ∷ []) is_new, ap (λ (hs : Homes). set hs 0 (some (Some c))) p.1);
          turn = λ j u there. ⊎_elim
              (λ (m : (j ≡ id) × (w ≡ u)). subst (λ (x : View O). IfSome x.turn (λ p. (None ≡ Some j) × (p ≡ (journal c, drawn c)))) m.1 tt)
              (λ (m : (j ≢ id) × (get_elem? s.views j ≡ some u)). IfSome_then u.turn (r.turn j u m.1) (λ p q. absurd (m.0 (cc (q.0, t.0)))))
              (at_set s.views id j w u there);
          knows = λ j u there. ⊎_elim
              (λ (m : (j ≡ id) × (w ≡ u)). subst (Knows o (journal c) (drawn c)) m.1
              (record {
                desk = k.desk;
                mine = whole (journal c)
                    (drawn_since v.turn (drawn c) ++ lanes_of v);
                joined = λ i d lt. absurd (omega arith);
                drawn =
                    omega arith;
              }))
              (λ (m : (j ≢ id) × (get_elem? s.views j ≡ some u)). grown j u m.0 m.1)
              (at_set s.views id j w u there);
          once = λ l under. dite (dec_le r.count l)
              (λ above. let was = r.never l above
              in let n = times_in l r.count (drawn c - r.count) above (omega (arith, under, grown_d))
              in omega (arith, was, n, count l, sum_set (stands l) s.views id v w at))
              (λ not. let lower : l < r.count = grind (arith, not) in let was = r.once l lower
              in let n = times_before l r.count (drawn c - r.count) lower
              in omega (arith, was, n, count l, sum_set (stands l) s.views id v w at));
          never = λ l above. let was = r.never l (omega (arith, above, grown_d))
              in let n = times_behind l r.count (drawn c - r.count) (omega (arith, above, grown_d))
              in omega (arith, was, n, count l, sum_set (stands l) s.views id v w at);
          later = All-weaker (λ (e : Event). e.lane < r.count) (λ (e : Event). e.lane < drawn c) (λ e lt. omega (arith, lt, grown_d)) (journal c) later;
        },
        λ x is. ap (λ (y : C). (done v (journal y) (drawn y), [])) (slot_is c x is),
      )

  -- a seat is split, and the new one has no lane
  parts : (id : ℕ) (v u : View O) → u.turn ≡ None → ((l : ℕ) → stands l u ≡ 0) → (s : St) (r : Rule s) → get_elem? s.views id ≡ some v → Knows o r.history r.count u
      → Rule (record { words = s.words; homes = s.homes; views = set s.views id v ++ u ∷ [] })
  parts id v u no_turn nowhere s r at fresh =
      let was : (j : ℕ) (w : View O) → get_elem? (set s.views id v) j ≡ some w
      → get_elem? s.views j ≡ some w = λ j w there. subst (λ (l : List (View O)). get_elem? l j ≡ some w)
      (set_again s.views id v at) there in
      let count : (l : ℕ) → total (stands l) (set s.views id v ++ u ∷ [])
      ≡ total (stands l) s.views = λ l. let z = nowhere l
      in omega (
        arith,
        z,
        ap (total (stands l)) (set_again s.views id v at),
        sum_append (stands l)
            (set s.views id v) (u ∷ []),
      ) in
      record {
        history = r.history;
        count = r.count;
        holder = r.holder;
        placed = r.placed;
        turn = λ j w there. ⊎_elim
            (λ was_there. r.turn j w (was j w was_there))
            (λ (is : u ≡ w). subst (λ (x : View O). IfSome x.turn
            (λ p. (r.holder ≡ Some j) × (p ≡ (r.history, r.count)))) is
            (subst (λ (x : Option (List Event × ℕ)). IfSome x
            (λ p. (r.holder ≡ Some j) × (p ≡ (r.history, r.count)))) (sym no_turn) tt))
            (at_snoc (set s.views id v) u w j there);
        knows = λ j w there. ⊎_elim (λ was_there. r.knows j w (was j w was_there)) (λ (is : u ≡ w). subst (Knows o r.history r.count) is fresh) (at_snoc (set s.views id v) u w j there);
        once = λ l below. count l ∙ r.once l below;
        never = λ l above. count l ∙ r.never l above;
        later = r.later;
      }

  pub splits : (id : ℕ) (v : View O) → Splits Rule id v v (new_view v)
  splits id v s r at =
      let k = r.knows id v at in
      parts id v (new_view v) refl (λ l. refl) s r at
      (record {
        desk = k.desk;
        mine =
            record { longer = k.mine.longer; own = no_lanes r.history ∙ sym (no_lanes v.seen) };
        joined = λ i d
            lt. absurd (omega arith);
        drawn = k.drawn;
      })

  -- a view splits into itself and one that knows nothing
  pub blanks : (id : ℕ) (v : View O) → Splits Rule id v v spent_view
  blanks id v s r at = parts id v spent_view refl (λ l. refl) s r at
      (record {
        desk = tt;
        mine = record { longer = (r.history, refl); own = no_lanes r.history };
        joined = λ i
            d lt. absurd (omega arith);
        drawn = omega arith;
      })

  -- a seat is joined into another (`joined_view`)
  pub joins : (id : ℕ) (v : View O) (other : ℕ) (w : View O) → Joins Rule id v other w (joined_view v w) spent_view
  joins id v other w s r at apart there =
      let k = r.knows id v at in
      let old_w : get_elem? s.views other
      ≡ some w = ⊎_elim (λ (t : (other ≡ id) × (joined_view v w ≡ w)). absurd (apart t.0))
      (λ (t : (other ≢ id) × (get_elem? s.views other ≡ some w)). t.1)
      (at_set s.views id other (joined_view v w) w there) in
      let q = r.knows other w old_w in
      let mine : Knows o r.history r.count (joined_view v w) = record {
        desk = k.desk;
        mine = k.mine;
        joined = All-cons (λ (x : Part). Covers r.history x.lanes x.seen)
            (record { lanes = w.lanes; seen = w.seen }) (w.joined ++ v.joined) q.mine
            (All-append (λ (x : Part). Covers r.history x.lanes x.seen) w.joined v.joined q.joined k.joined);
        drawn = (let a = k.drawn in let b = q.drawn in omega arith);
      } in
      let count : (l : ℕ) → total (stands l) (set (set s.views id (joined_view v w)) other spent_view) ≡ total (stands l) s.views = λ l.
      let f : ℕ → ℕ = λ x. cond {A = ℕ} (eqb x l) 1 0 in
      let a = sum_set (stands l) s.views id v (joined_view v w) at in
      let b = sum_set (stands l) (set s.views id (joined_view v w)) other w spent_view there in
      let both : part_lanes (w.joined ++ v.joined) ≡ part_lanes w.joined ++ part_lanes v.joined = flat_map-append (λ (p : Part). p.lanes) w.joined v.joined in
      let c : stands l (joined_view v w) ≡ total f (w.lanes ++ part_lanes (w.joined ++ v.joined)) + total f v.lanes = sum_append f (w.lanes ++ part_lanes (w.joined ++ v.joined)) v.lanes in
      let d : total f (w.lanes ++ part_lanes (w.joined ++ v.joined)) ≡ total f w.lanes + total f (part_lanes (w.joined ++ v.joined)) = sum_append f w.lanes (part_lanes (w.joined ++ v.joined)) in
      let e : total f (part_lanes (w.joined ++ v.joined))
      ≡ total f (part_lanes w.joined) + total f (part_lanes v.joined) = ap (total f) both
      ∙ sum_append f (part_lanes w.joined) (part_lanes v.joined) in
      let m : stands l v ≡ total f (part_lanes v.joined) + total f v.lanes = sum_append f (part_lanes v.joined) v.lanes in
      let n : stands l w ≡ total f (part_lanes w.joined) + total f w.lanes = sum_append f (part_lanes w.joined) w.lanes in
      omega (arith, a, b, c, d, e, m, n) in
      record {
        history = r.history;
        count = r.count;
        holder = r.holder;
        placed = r.placed;
        turn = λ j u at_j. ⊎_elim
            (λ (m : (j ≡ other) × (spent_view ≡ u)). subst (λ (x : View O). IfSome x.turn (λ p. (r.holder ≡ Some j) × (p ≡ (r.history, r.count)))) m.1 tt)
            (λ (m : (j ≢ other) × (get_elem? (set s.views id (joined_view v w)) j ≡ some u)). ⊎_elim
            (λ (n : (j ≡ id) × (joined_view v w ≡ u)). subst (λ (x : ℕ × View O). IfSome x.1.turn (λ p. (r.holder ≡ Some x.0) × (p ≡ (r.history, r.count)))) (λ i. (sym n.0 i, n.1 i)) (r.turn id v at))
            (λ (n : (j ≢ id) × (get_elem? s.views j ≡ some u)). r.turn j u n.1)
            (at_set s.views id j (joined_view v w) u m.1))
            (at_set (set s.views id (joined_view v w)) other j spent_view u at_j);
        knows = λ j u at_j. ⊎_elim
            (λ (m : (j ≡ other) × (spent_view ≡ u)). subst (Knows o r.history r.count) m.1
            (record {
              desk = tt;
              mine = record { longer = (r.history, refl); own = no_lanes r.history };
              joined = λ i d lt. absurd (omega arith);
              drawn = omega arith;
            }))
            (λ (m : (j ≢ other) × (get_elem? (set s.views id (joined_view v w)) j ≡ some u)). ⊎_elim
            (λ (n : (j ≡ id) × (joined_view v w ≡ u)). subst (Knows o r.history r.count) n.1 mine)
            (λ (n : (j ≢ id) × (get_elem? s.views j ≡ some u)). r.knows j u n.1)
            (at_set s.views id j (joined_view v w) u m.1))
            (at_set (set s.views id (joined_view v w)) other j spent_view u at_j);
        once = λ l below. count l ∙ r.once l below;
        never = λ l above. count l ∙ r.never l above;
        later = r.later;
      }

  pub opens : (c : C) → origin c ≡ o → journal c ≡ [] → drawn c ≡ 1 → Rule (opening (0 ∷ []) (Some c ∷ []) (first_view o))
  opens c is_o is_h is_d = record {
    history = [];
    count = 1;
    holder = None;
    placed = (c, is_o, is_h, is_d, refl, refl);
    turn = one (λ j u. IfSome u.turn (λ p. (None ≡ Some j) × (p ≡ ([], 1)))) tt;
    knows = one (λ j u. Knows o [] 1 u) (record { desk = refl; mine = whole [] (0 ∷ []); joined = λ i d lt. absurd (omega arith); drawn = omega arith });
    once = λ l below. let z : l ≡ 0 = omega arith in subst (λ (k : ℕ). total (stands k) (first_view o ∷ []) ≡ 1) (sym z) refl;
    never = λ l above. ap (λ b. cond {A = ℕ} b 1 0 + 0 + 0) (ne_eqb 0 l (λ is. omega arith));
    later = λ i d lt. absurd (omega arith);
  }
    where
      one : (P : ℕ → View O → Type 0) → P 0 (first_view o) → (j : ℕ) (u : View O) → get_elem? (first_view o ∷ []) j ≡ some u → P j u
      one P p zero u e = subst (P 0) (some-injective _ _ e) p
      one P p (suc j) u e = absurd (some-ne-none u (sym e))

  -- a desk opens, as the calls ask for it
  pub opens_at : (xs ys : List (Option C)) (c : C) → xs ≡ ys ++ Some c ∷ [] → ys ≡ [] → origin c ≡ o → journal c ≡ [] → drawn c ≡ 1 → Rule (opening (0 ∷ []) xs (first_view o))
  opens_at xs ys c is empty is_o is_h is_d = subst
      (λ (l : List (Option C)). Rule (opening (0 ∷ []) l (first_view o)))
      (sym (is ∙ ap (λ (l : List (Option C)). l ++ Some c ∷ []) empty)) (opens c is_o is_h is_d)

  pub takes_at : (slots id old : ℕ) (me : Me (Option C) (View O)) (x : mathlib.Core.Option.Option (Option C)) → me.1 ≡ [] → me.0.origin ≡ Some o → old % 2 ≡ 0
      → Allows Rule slots id me 0 (λ n. either (eqb n old) (old + 1) n) (took origin journal drawn (step slots 0 old (old + 1) x) me)
  takes_at slots id old me x empty is_desk even =
      subst (λ (cs : List (ℕ × Option C)). Allows Rule slots id (me.0, cs) 0
      (λ n. either (eqb n old) (old + 1) n)
      (took origin journal drawn (step slots 0 old (old + 1) x) (me.0, cs))) (sym empty)
      (takes_or_not slots id old me.0 x is_desk even)

  pub releases_at : (slots id new : ℕ) (me : Me (Option C) (View O)) (c : C) → me.1 ≡ (0, Some c) ∷ [] → HasTurn me.0 (journal c) (drawn c) → origin c ≡ o → new ≡ 2 * length (journal c)
      → Allows Rule slots id me 0 (λ _. new) (λ _. released journal drawn (step slots 0 new 0 none) me new)
  releases_at slots id new me c slot mine is_o is_new =
      subst (λ (cs : List (ℕ × Option C)). Allows Rule slots id (me.0, cs) 0 (λ _. new)
      (λ _. released journal drawn (step slots 0 new 0 none) (me.0, cs) new)) (sym slot)
      (releases slots id new me.0 c mine is_o is_new)

  -- what a compare-exchange told
  pub hit : (slots old new : ℕ) (me : Me (Option C) (View O)) (n : ℕ) (me' : Me (Option C) (View O)) → n ≡ old
      → took origin journal drawn (step slots 0 old new none) me n me'
      → (c : C) × Taken origin journal drawn me.0 c n me'
  hit slots old new me n me' is told = subst (λ (b : Bool). MatchBool b ((c : C) × Taken origin journal drawn me.0 c n me') (me' ≡ me)) (eq-eqb n old is) told

  pub miss : (slots old new : ℕ) (me : Me (Option C) (View O)) (n : ℕ) (me' : Me (Option C) (View O)) → n ≢ old → took origin journal drawn (step slots 0 old new none) me n me' → me' ≡ me
  miss slots old new me n me' not told = subst (λ (b : Bool). MatchBool b ((c : C) × Taken origin journal drawn me.0 c n me') (me' ≡ me)) (ne_eqb n old not) told

  abbrev front : List (ℕ × Option C) → Option C
  front [] = None
  front (x ∷ xs) = x.1

  pub holds_some : (slots old new : ℕ) (me : Me (Option C) (View O)) (n : ℕ) (me' : Me (Option C) (View O))
      → n ≡ old → took origin journal drawn (step slots 0 old new none) me n me'
      → (x : Option C) × (me'.1 ≡ (0, x) ∷ rest me'.1)
  holds_some slots old new me n me' is told = let t = hit slots old new me n me' is told in let e : me'.1
      ≡ (0, Some t.0) ∷ [] = ap (λ (m : Me (Option C) (View O)). m.1) t.1.0
      in (Some t.0, e ∙ ap (λ (l : List (ℕ × Option C)). (0, Some t.0) ∷ rest l) (sym e))

  -- the turn was taken, and the core taken out
  pub gets_some : (slots old new : ℕ) (me : Me (Option C) (View O)) (n : ℕ) (me' : Me (Option C) (View O))
      → me.0.origin ≡ Some o → n ≡ old → took origin journal drawn (step slots 0 old new none) me n me'
      → (x : Option C) (last : Me (Option C) (View O)) → me'.1 ≡ (0, x) ∷ rest me'.1
      → last ≡ (me'.0, (0, None) ∷ rest me'.1) → (P : Type 0)
      → (IfNone x P) × (IfSome x (λ k. (last ≡ (holding me.0 (journal k) (drawn k), (0, None) ∷ []))
      × Gets o (origin k) (journal k) (drawn k) me.0))
  gets_some slots old new me n me' is_desk is told x last out then P =
      let t = hit slots old new me n me' is told in
      let c = t.0 in
      let e : me'.1 ≡ (0, Some c) ∷ [] = ap (λ (m : Me (Option C) (View O)). m.1) t.1.0 in
      let same : o ≡ origin c = subst (λ (y : Option O). IfSome y (λ p. p ≡ origin c)) is_desk t.1.2.desk in
      let x_is : x ≡ Some c = ap front (sym out ∙ e) in
      let now : last ≡ (holding me.0 (journal c) (drawn c), (0, None) ∷ []) = then ∙ ap (λ (m : Me (Option C) (View O)). (m.0, (0, None) ∷ rest m.1)) t.1.0 in
      subst (λ (y : Option C). (IfNone y P) × (IfSome y (λ k. (last ≡ (holding me.0 (journal k) (drawn k), (0, None) ∷ [])) × Gets o (origin k) (journal k) (drawn k) me.0))) (sym x_is)
      (tt, (now, record { desk = sym same; knows = subst (λ (p : O). Knows p (journal c) (drawn c) me.0) (sym same) t.1.2; later = t.1.3; below = t.1.4 }))

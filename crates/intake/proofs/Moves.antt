-- Each move keeps the rule of the ring.
use Rattle.std.proofs.Common.{◌≡◌, ◌≢◌, ◌⊎◌, ℕ, zero, suc, ◌+◌, ◌<◌, ◌≤◌, List, [], ◌∷◌, ◌++◌, length, set, Option, Some, None, Bool, true, cond, eqb, eq-eqb, ne_eqb, refl, sym, ap, ◌∙◌, subst, inl, inr, ⊎_elim, arith, All, IfSome, append-nil, append_assoc, map}
use Rattle.std.proofs.lemmas.List.Elements.{filter-append, All-append, All-cons, All-head, All-nil, All-tail, All-weaker}
use Rattle.std.proofs.lemmas.List.{map-append}
use Rattle.std.proofs.lemmas.Option.{IfSome_then}
use mathlib.Core.Option.{some, some-ne-none, some-injective}
use mathlib.Core.Logic.{dite}
use native.Mathlib.Decide.{ℕ_discrete, dec_le}
use lib.ListN.{get_elem?}
use Rattle.crossbeam_queue.specs.Fifo.{Pushes, Pops, Forks, Merges, Learns}
use Rattle.crossbeam_queue.proofs.Lists.{at_set}
use Rattle.intake.specs.declared.ticket.Ticket.{Ticket}
use Rattle.intake.specs.declared.rule.PassView.{PassView}
use Rattle.crossbeam_queue.specs.Fifo.{Held}
use Rattle.crossbeam_queue.specs.Passes.{view}
use Rattle.intake.specs.declared.seats.SendSeat.{SendSeat}
use Rattle.intake.specs.Seats.{sender_of, sent_by, sender_and_sent}
use Rattle.intake.specs.Tickets.{of, ArePlacedFrom}
use Rattle.intake.specs.Rule.{first_view, spent_view, with_seat_made, seated, sender_with, with_joined, with_sent, with_taken, Takes, Fits, Rule, Stands, Balances}

-- tickets of one sender
of_same : (l : List Ticket) (x : Ticket) (s : ℕ) → x.sender ≡ s → of (l ++ x ∷ []) s ≡ of l s ++ x ∷ []
of_same l x s is = filter-append (λ (t : Ticket). eqb t.sender s) l (x ∷ []) ∙ ap (λ (b : Bool). of l s ++ cond b (x ∷ []) []) (eq-eqb x.sender s is)

of_other : (l : List Ticket) (x : Ticket) (s : ℕ) → x.sender ≢ s → of (l ++ x ∷ []) s ≡ of l s
of_other l x s ne = filter-append (λ (t : Ticket). eqb t.sender s) l (x ∷ []) ∙ ap (λ (b : Bool). of l s ++ cond b (x ∷ []) []) (ne_eqb x.sender s ne) ∙ append-nil (of l s)

of_next : (l m : List Ticket) (x : Ticket) → of (l ++ x ∷ m) x.sender ≡ of l x.sender ++ x ∷ of m x.sender
of_next l m x = filter-append (λ (t : Ticket). eqb t.sender x.sender) l (x ∷ m) ∙ ap (λ (b : Bool). of l x.sender ++ cond b (x ∷ of m x.sender) (of m x.sender)) (eq-eqb x.sender x.sender refl)

placed_more : (first : ℕ) (l : List Ticket) (x : Ticket) → ArePlacedFrom first l → x.place ≡ first + length l → ArePlacedFrom first (l ++ x ∷ [])
placed_more first [] x p is = (omega arith, tt)
placed_more first (t ∷ ts) x p is = (p.0, placed_more (suc first) ts x p.1 (omega arith))

placed_at : (first : ℕ) (l m : List Ticket) (x : Ticket) → ArePlacedFrom first (l ++ x ∷ m) → x.place ≡ first + length l
placed_at first [] m x p = omega (arith, p.0)
placed_at first (t ∷ ts) m x p = omega (arith, placed_at (suc first) ts m x p.1)

-- a fact of each pass, where one pass has changed
each_after_set : (F : ℕ → PassView → Type 0) (views : List PassView) (pass : ℕ) (w : PassView) → F pass w
    → ((j : ℕ) (u : PassView) → j ≢ pass → get_elem? views j ≡ some u → F j u) → (j : ℕ) (u : PassView)
    → get_elem? (set views pass w) j ≡ some u → F j u
each_after_set F views pass w mine others j u e = ⊎_elim (λ (x : (j ≡ pass) × (w ≡ u)). subst (λ (y : ℕ × PassView). F y.0 y.1) (λ i. (sym x.0 i, x.1 i)) mine)
    (λ (x : (j ≢ pass) × (get_elem? views j ≡ some u)). others j u x.0 x.1) (at_set views pass j w u e)

-- the new pass is the last one
at_end : (l : List PassView) (a b : PassView) (j : ℕ) → get_elem? (l ++ a ∷ []) j ≡ some b → (get_elem? l j ≡ some b) ⊎ ((j ≡ length l) × (a ≡ b))
at_end [] a b zero e = inr (refl, some-injective a b e)
at_end [] a b (suc j) e = absurd (some-ne-none b (sym e))
at_end (x ∷ xs) a b zero e = inl e
at_end (x ∷ xs) a b (suc j) e = ⊎_elim (λ h. inl h) (λ (h : (j ≡ length xs) × (a ≡ b)). inr (ap suc h.0, h.1)) (at_end xs a b j e)

seated_apart : (a : Option ℕ) (p q : ℕ) → a ≡ Some p → a ≡ Some q → p ≡ q
seated_apart a p q x y = let e : Some p ≡ Some q = sym x ∙ y in cc (e)

seat_is_made : (a : Option ℕ) (p : ℕ) → a ≡ Some p → a ≡ None → ⊥
seat_is_made a p x y = let e : Some p ≡ None = sym x ∙ y in absurd (cc (e))

pub begins : Rule [] (first_view ∷ [])
begins = record {
  reader = 0;
  made = 0;
  taken = [];
  seat = λ s. None;
  fits = one;
  unmade = λ s le. (refl, refl);
  placed = λ s. tt;
}
  where
    one : (i : ℕ) (v : PassView) → get_elem? (first_view ∷ []) i ≡ some v → Fits 0 0 [] [] (λ s. None) i v
    one zero v e = subst (Fits 0 0 [] [] (λ s. None) 0) (some-injective _ _ e) (record { taker = λ _. (refl, refl, refl); sends = tt; joined = All-nil _ })
    one (suc i) v e = absurd (some-ne-none v (sym e))

pub pushes : (n pass : ℕ) (v : PassView) (x : Ticket) → v.sender ≡ Some x.sender → x.place ≡ length v.sent → Pushes Rule n pass v x (λ w. w ≡ with_sent v x)
pushes n pass v x own place items views room r at =
    let s = x.sender in
    let l = r.taken ++ items in
    let m = l ++ x ∷ [] in
    let k = r.fits pass v at in
    let w = with_sent v x in
    let long : r.taken ++ (items ++ x ∷ []) ≡ m = sym (append_assoc r.taken items (x ∷ [])) in
    let mine : (r.seat s ≡ Some pass) × (of l s ≡ v.sent) = subst (λ (y : Option ℕ). IfSome y (λ z. (r.seat z ≡ Some pass) × (of l z ≡ v.sent))) own k.sends in
    let joined : (u : PassView) → All
    (λ (y : ℕ × List Ticket). (r.seat y.0 ≡ None) × (y.0 < r.made) × (of l y.0 ≡ y.1)) u.joined
    → All (λ (y : ℕ × List Ticket). (r.seat y.0 ≡ None) × (y.0 < r.made) × (of m y.0 ≡ y.1)) u.joined = λ u
    all. All-weaker (λ (y : ℕ × List Ticket). (r.seat y.0 ≡ None) × (y.0 < r.made) × (of l y.0 ≡ y.1))
    (λ (y : ℕ × List Ticket). (r.seat y.0 ≡ None) × (y.0 < r.made) × (of m y.0 ≡ y.1))
    (λ y h. (h.0, h.1, of_other l x y.0 (λ is. seat_is_made (r.seat s) pass mine.0 (ap r.seat is ∙ h.0)) ∙ h.2)) u.joined all in
    let fits : (j : ℕ) (u : PassView) → get_elem? (set views pass w) j ≡ some u → Fits r.reader r.made r.taken m r.seat j u =
    each_after_set (Fits r.reader r.made r.taken m r.seat) views pass w
    (record {
      taker = k.taker;
      sends = subst (λ (y : Option ℕ). IfSome y (λ z. (r.seat z ≡ Some pass) × (of m z ≡ v.sent ++ x ∷ []))) (sym own) (mine.0, of_same l x s refl ∙ ap (λ (t : List Ticket). t ++ x ∷ []) mine.1);
      joined = joined v k.joined;
    })
    (λ j u ne there.
    let q = r.fits j u there in
    record {
      taker = q.taker;
      sends = IfSome_then u.sender q.sends (λ z h. (h.0, of_other l x z (λ is. ne (seated_apart (r.seat s) j pass (ap r.seat is ∙ h.0) mine.0)) ∙ h.1));
      joined = joined u q.joined;
    }) in (
      w,
      record {
        reader = r.reader;
        made = r.made;
        taken = r.taken;
        seat = r.seat;
        fits = λ j u e. subst (λ (t : List Ticket). Fits r.reader r.made r.taken t r.seat j u) (sym long) (fits j u e);
        unmade = λ z le. let h = r.unmade z le in (h.0, ap (λ (t : List Ticket). of t z) long ∙ (of_other l x z (λ is. seat_is_made (r.seat s) pass mine.0 (ap r.seat is ∙ h.0)) ∙ h.1));
        placed = λ z. subst (λ (t : List Ticket). ArePlacedFrom 0 (of t z)) (sym long) (dite (ℕ_discrete s z)
            (λ is. subst (ArePlacedFrom 0) (sym (of_same l x z is))
            (placed_more 0 (of l z) x (r.placed z)
            (let q : length (of l z) ≡ length v.sent = ap (λ (y : ℕ). length (of l y)) (sym is)
            ∙ ap length mine.1 in omega arith)))
            (λ not. subst (ArePlacedFrom 0) (sym (of_other l x z not)) (r.placed z)));
      },
      refl,
    )

pub pops : (pass : ℕ) (v : PassView) → v.takes ≡ true → Pops Rule pass v (Takes v)
pops pass v takes x items views r at =
    let k = r.fits pass v at in
    let t = k.taker takes in
    let w = with_taken v x in
    let long : (r.taken ++ x ∷ []) ++ items ≡ r.taken ++ x ∷ items = append_assoc r.taken (x ∷ []) items in
    let F : ℕ → PassView → Type 0 = Fits r.reader r.made (r.taken ++ x ∷ []) (r.taken ++ x ∷ items) r.seat in
    let fits : (j : ℕ) (u : PassView) → get_elem? (set views pass w) j ≡ some u → F j u =
    each_after_set F views pass w
    (record { taker = λ _. (t.0, t.1, ap (λ (l : List Ticket). l ++ x ∷ []) t.2); sends = k.sends; joined = k.joined })
    (λ j u ne there. let q = r.fits j u there in record { taker = λ yes. absurd (ne ((q.taker yes).0 ∙ sym t.0)); sends = q.sends; joined = q.joined }) in
    let before = placed_at 0 (of r.taken x.sender) (of items x.sender) x (subst (ArePlacedFrom 0) (of_next r.taken items x) (r.placed x.sender)) in
    let same : length (of r.taken x.sender) ≡ length (of v.taken x.sender) = ap (λ (l : List Ticket). length (of l x.sender)) (sym t.2) in (
      w,
      record {
        reader = r.reader;
        made = r.made;
        taken = r.taken ++ x ∷ [];
        seat = r.seat;
        fits = λ j u e. subst (λ (l : List Ticket). Fits r.reader r.made (r.taken ++ x ∷ []) l r.seat j u) (sym long) (fits j u e);
        unmade = λ z le. let h = r.unmade z le in (h.0, ap (λ (l : List Ticket). of l z) long ∙ h.1);
        placed = λ z. subst (λ (l : List Ticket). ArePlacedFrom 0 (of l z)) (sym long) (r.placed z);
      },
      (refl, omega (arith, before, same)),
    )

-- what a pass learns where it stands
pub stands : (pass : ℕ) (v : PassView) → Learns Rule pass v (Stands v)
stands pass v items views r at = (views, pass, at, r)

pub balances : (pass : ℕ) (v : PassView) → v.takes ≡ true → Learns Rule pass v (Balances v)
balances pass v takes items views r at =
    let k = r.fits pass v at in
    let t = k.taker takes in
    let same : v.taken ++ items ≡ r.taken ++ items = ap (λ (l : List Ticket). l ++ items) t.2 in (
      All-weaker (λ (y : ℕ × List Ticket). (r.seat y.0 ≡ None) × (y.0 < r.made)
          × (of (r.taken ++ items) y.0 ≡ y.1)) (λ (y : ℕ × List Ticket). of (v.taken ++ items) y.0 ≡ y.1)
          (λ y h. ap (λ (l : List Ticket). of l y.0) same ∙ h.2) v.joined k.joined,
      λ s le. ap (λ (l : List Ticket). of l s) same ∙ (r.unmade s (omega (arith, t.1))).1,
    )

pub forks : (pass : ℕ) (v : PassView) → v.takes ≡ true → Forks Rule pass v (with_seat_made v) (seated v)
forks pass v takes items views r at =
    let l = r.taken ++ items in
    let k = r.fits pass v at in
    let t = k.taker takes in
    let vs : List PassView = set views pass (with_seat_made v) in
    let next = length vs in
    let seat : ℕ → Option ℕ = λ s. cond (eqb s r.made) (Some next) (r.seat s) in
    let before : (s : ℕ) → s ≢ r.made → seat s ≡ r.seat s = λ s ne. ap (λ (b : Bool). cond b (Some next) (r.seat s)) (ne_eqb s r.made ne) in
    let new : seat r.made ≡ Some next = ap (λ (b : Bool). cond b (Some next) (r.seat r.made)) (eq-eqb r.made r.made refl) in
    let was_none = r.unmade r.made (omega arith) in
    let F : ℕ → PassView → Type 0 = Fits r.reader (suc r.made) r.taken l seat in
    let sends : (j : ℕ) (u : PassView) → IfSome u.sender (λ z. (r.seat z ≡ Some j) × (of l z ≡ u.sent))
    → IfSome u.sender (λ z. (seat z ≡ Some j) × (of l z ≡ u.sent)) = λ j u sends. IfSome_then u.sender sends
    (λ z h. (before z (λ is. seat_is_made (r.seat z) j h.0 (ap r.seat is ∙ was_none.0)) ∙ h.0, h.1)) in
    let joined : (u : PassView) → All
    (λ (y : ℕ × List Ticket). (r.seat y.0 ≡ None) × (y.0 < r.made) × (of l y.0 ≡ y.1)) u.joined
    → All (λ (y : ℕ × List Ticket). (seat y.0 ≡ None) × (y.0 < suc r.made) × (of l y.0 ≡ y.1)) u.joined =
    λ u. All-weaker (λ (y : ℕ × List Ticket). (r.seat y.0 ≡ None) × (y.0 < r.made) × (of l y.0 ≡ y.1))
    (λ (y : ℕ × List Ticket). (seat y.0 ≡ None) × (y.0 < suc r.made) × (of l y.0 ≡ y.1))
    (λ y h. (before y.0 (λ is. omega (arith, h.1, is)) ∙ h.0, omega (arith, h.1), h.2)) u.joined in
    let old : (j : ℕ) (u : PassView) → get_elem? vs j ≡ some u → F j u = each_after_set F views pass (with_seat_made v)
    (record { taker = λ _. (t.0, ap suc t.1, t.2); sends = sends pass v k.sends; joined = joined v k.joined })
    (λ j u ne there. let q = r.fits j u there in record { taker = λ yes. absurd (ne ((q.taker yes).0 ∙ sym t.0)); sends = sends j u q.sends; joined = joined u q.joined }) in
    let fresh : F next (seated v) = record { taker = λ yes. absurd (cc (yes)); sends = (ap seat t.1 ∙ new, ap (of l) t.1 ∙ was_none.1); joined = All-nil _ } in
    record {
      reader = r.reader;
      made = suc r.made;
      taken = r.taken;
      seat = seat;
      fits = λ j u e. ⊎_elim (λ was. old j u was) (λ (is : (j ≡ next) × (seated v ≡ u)). subst (λ (y : ℕ × PassView). F y.0 y.1) (λ i. (sym is.0 i, is.1 i)) fresh) (at_end vs (seated v) u j e);
      unmade = λ z le. let h = r.unmade z (omega arith) in (before z (λ is. omega (arith, is)) ∙ h.0, h.1);
      placed = r.placed;
    }

pub merges : (pass : ℕ) (v : PassView) (other : ℕ) (w : PassView) (s : ℕ) → w.sender ≡ Some s → Merges Rule pass v other w (with_joined v w) spent_view
merges pass v other w s own items views r at apart there =
    let l = r.taken ++ items in
    let k = r.fits pass v at in
    let vs : List PassView = set views pass (with_joined v w) in
    let old_w : get_elem? views other
    ≡ some w = ⊎_elim (λ (t : (other ≡ pass) × (with_joined v w ≡ w)). absurd (apart t.0))
    (λ (t : (other ≢ pass) × (get_elem? views other ≡ some w)). t.1)
    (at_set views pass other (with_joined v w) w there) in
    let q = r.fits other w old_w in
    let mine : (r.seat s ≡ Some other) × (of l s ≡ w.sent) = subst (λ (y : Option ℕ). IfSome y (λ z. (r.seat z ≡ Some other) × (of l z ≡ w.sent))) own q.sends in
    let below : s < r.made = dite (dec_le r.made s) (λ le. absurd (seat_is_made (r.seat s) other mine.0 (r.unmade s le).0)) (λ not. grind (arith, not)) in
    let seat : ℕ → Option ℕ = λ z. cond (eqb z s) None (r.seat z) in
    let before : (z : ℕ) → z ≢ s → seat z ≡ r.seat z = λ z ne. ap (λ (b : Bool). cond b None (r.seat z)) (ne_eqb z s ne) in
    let gone : seat s ≡ None = ap (λ (b : Bool). cond b None (r.seat s)) (eq-eqb s s refl) in
    let still : (z : ℕ) → r.seat z ≡ None → seat z ≡ None = λ z none. before z (λ is. seat_is_made (r.seat s) other mine.0 (ap r.seat (sym is) ∙ none)) ∙ none in
    let F : ℕ → PassView → Type 0 = Fits r.reader r.made r.taken l seat in
    let P : ℕ × List Ticket → Type 0 = λ y. (seat y.0 ≡ None) × (y.0 < r.made) × (of l y.0 ≡ y.1) in
    let sends : (j : ℕ) (u : PassView) → j ≢ other
    → IfSome u.sender (λ z. (r.seat z ≡ Some j) × (of l z ≡ u.sent))
    → IfSome u.sender (λ z. (seat z ≡ Some j) × (of l z ≡ u.sent)) = λ j u ne sends. IfSome_then u.sender
    sends (λ z h. (
      before z (λ is. ne (seated_apart (r.seat z) j other h.0 (ap r.seat is ∙ mine.0)))
          ∙ h.0,
      h.1,
    )) in
    let joined : (u : PassView) → All
    (λ (y : ℕ × List Ticket). (r.seat y.0 ≡ None) × (y.0 < r.made) × (of l y.0 ≡ y.1)) u.joined
    → All P u.joined = λ u. All-weaker
    (λ (y : ℕ × List Ticket). (r.seat y.0 ≡ None) × (y.0 < r.made) × (of l y.0 ≡ y.1)) P
    (λ y h. (still y.0 h.0, h.1, h.2)) u.joined in
    let one : All P (sender_with w.sender w.sent) = subst (λ (y : Option ℕ). All P (sender_with y w.sent)) (sym own) (All-cons P (s, w.sent) [] (gone, below, mine.1) (All-nil P)) in
    let mid : (j : ℕ) (u : PassView) → j ≢ other → get_elem? vs j ≡ some u → F j u = λ j u away e.
    each_after_set (λ j u. j ≢ other → F j u) views pass (with_joined v w)
    (λ far. record { taker = k.taker; sends = sends pass v far k.sends; joined = All-append P (sender_with w.sender w.sent) v.joined one (joined v k.joined) })
    (λ j u ne e far. let o = r.fits j u e in record { taker = o.taker; sends = sends j u far o.sends; joined = joined u o.joined })
    j u e away in
    record {
      reader = r.reader;
      made = r.made;
      taken = r.taken;
      seat = seat;
      fits = each_after_set F vs other spent_view (record { taker = λ yes. absurd (cc (yes)); sends = tt; joined = All-nil _ }) (λ j u ne e. mid j u ne e);
      unmade = λ z le. let h = r.unmade z le in (still z h.0, h.1);
      placed = r.placed;
    }

-- what a pass knows beside the senders that were joined to it
abbrev pub alone : PassView → PassView
alone v = record v { joined = [] }

-- one seat more is joined
pub one_joined : (all known more : List (ℕ × List Ticket)) (xs ys : List SendSeat) (seat : SendSeat) → xs ≡ ys ++ seat ∷ [] → all ≡ map sender_and_sent xs ++ known
    → more ≡ sender_with (view seat.pass).sender (view seat.pass).sent ++ known → all ≡ map sender_and_sent ys ++ more
one_joined all known more xs ys seat is was now =
    let one : sender_with (view seat.pass).sender (view seat.pass).sent ≡ sender_and_sent seat ∷ [] = ap (λ (x : Option ℕ). sender_with x (view seat.pass).sent) seat.sender_is in
    was ∙ ap (λ (l : List SendSeat). map sender_and_sent l ++ known) is ∙ ap (λ (l : List (ℕ × List Ticket)). l ++ known) (map-append sender_and_sent ys (seat ∷ []))
    ∙ append_assoc (map sender_and_sent ys) (sender_and_sent seat ∷ []) known
    ∙ ap (λ (l : List (ℕ × List Ticket)). map sender_and_sent ys ++ l) (sym (now ∙ ap (λ (l : List (ℕ × List Ticket)). l ++ known) one))

nothing_held : (l : List Ticket) → length l ≡ 0 → l ≡ []
nothing_held [] e = refl
nothing_held (x ∷ xs) e = absurd (omega arith)

of_seats : (tickets : List Ticket) (seats : List SendSeat)
    → All (λ (k : ℕ × List Ticket). of tickets k.0 ≡ k.1) (map sender_and_sent seats)
    → All (λ (s : SendSeat). of tickets (sender_of s) ≡ sent_by s) seats
of_seats tickets [] all = All-nil _
of_seats tickets (s ∷ ss) all =
    let P : ℕ × List Ticket → Type 0 = λ k. of tickets k.0 ≡ k.1 in
    All-cons (λ (s : SendSeat). of tickets (sender_of s) ≡ sent_by s) s ss
    (All-head P (sender_and_sent s) (map sender_and_sent ss) all)
    (of_seats tickets ss (All-tail P (sender_and_sent s) (map sender_and_sent ss) all))

-- the ring is empty, and all seats are joined
pub all_left : (v : PassView) (tickets : List Ticket) (seats : List SendSeat) (made : ℕ) → v.taken ≡ tickets → v.joined ≡ map sender_and_sent seats → v.made ≡ made → Held 0 (Balances v)
    → All (λ (s : SendSeat). of tickets (sender_of s) ≡ sent_by s) seats × ((s : ℕ) → made ≤ s → of tickets s ≡ [])
all_left v tickets seats made taken joined number h =
    let same : v.taken ++ h.0 ≡ tickets = ap (λ (l : List Ticket). v.taken ++ l) (nothing_held h.0 h.1) ∙ append-nil v.taken ∙ taken in (
      of_seats tickets seats (subst (λ (y : List Ticket × List (ℕ × List Ticket)). All (λ (k : ℕ × List Ticket). of y.0 k.0 ≡ k.1) y.1) (λ i. (same i, joined i)) h.2.0),
      λ s le. ap (λ (l : List Ticket). of l s) (sym same) ∙ h.2.1 s (omega (arith, number)),
    )

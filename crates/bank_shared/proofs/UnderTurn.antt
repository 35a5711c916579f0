-- Several events under one turn.
use Rattle.std.proofs.Common.{◌≡◌, ℕ, ◌-◌, ◌<◌, ◌≤◌, List, [], ◌∷◌, ◌++◌, Option, Some, None, true, IfSome, refl, sym, ap, ap₂, ◌∙◌, subst, arith, le_refl, append-nil, append_assoc}
use Rattle.std.specs.Prelude.{drop, length}
use Rattle.std.specs.List.{AllPass, range_with_len}
use Rattle.std.proofs.Math.Seq.{drop-append_seam}
use Rattle.std.proofs.lemmas.List.Elements.{All-append, All-cons}
use mathlib.Core.Logic.{dite}
use native.Mathlib.Decide.{dec_le}
use Rattle.bank_law.specs.declared.event.Event.{Event}
use Rattle.bank_law.specs.declared.event.EventKind.TheVariants.{Grant}
use Rattle.bank_law.specs.Machine.{with_event}
use Rattle.bank_core.specs.declared.loan.Take.{Take}
use Rattle.bank_core.specs.declared.loan.Take.TheVariants as take
use Rattle.bank_core.specs.Takes.{MatchTake}
use Rattle.bank_shared.specs.declared.view.View.{View}
use Rattle.bank_shared.specs.History.{is_one_of, GoesOn}
use Rattle.bank_shared.specs.Rule.{times, lanes_of, stands}
use Rattle.bank_shared.specs.Plays.{holding, done, drawn_since, HasTurn}
use Rattle.bank_shared.specs.Turns.{history_at, IsOnTurn}
use Rattle.bank_shared.proofs.Owns.{one_stands}
use Rattle.bank_shared.proofs.Turns.{lanes_are}

-- what holds of a pass that is of a desk
pub of_desk : {O P : Type 0} (x : Option O) (o : O) → x ≡ Some o → IfSome x (λ (_ : O). P) → P
of_desk {O} {P} x o is p = subst (λ (y : Option O). IfSome y (λ (_ : O). P)) is p

-- and of any
pub of_any : {O P : Type 0} (x : Option O) → P → IfSome x (λ (_ : O). P)
of_any None p = tt
of_any (Some o) p = p

module _ {O : Type 0} where
  -- a lane of a pass is drawn
  pub lane_drawn : (v : View O) (d l : ℕ) → v.joined ≡ [] → ((k : ℕ) → d ≤ k → stands k v ≡ 0) → is_one_of v.lanes l ≡ true → l < d
  lane_drawn v d l no_parts below is = dite (dec_le d l)
      (λ above. let one = one_stands l v.lanes is in let none : times l v.lanes ≡ 0 = ap (times l) (sym (lanes_are v no_parts)) ∙ below l above in absurd (omega (arith, one, none)))
      (λ not. grind (arith, not))

  -- the history went on by these events
  pub on_turn : (v : View O) (h es after : List Event) (d : ℕ) → v.turn ≡ Some (h, d) → AllPass (λ e. is_one_of v.lanes e.lane) es → after ≡ h ++ es → IsOnTurn v after d
  on_turn v h es after d turn mine is =
      let was : history_at v.turn ≡ h = ap history_at turn in
      let rest : drop (length (history_at v.turn)) after ≡ es = ap₂ (λ (x y : List Event). drop (length x) y) was is ∙ drop-append_seam h es in
      record {
        turn = turn ∙ ap (λ (x : List Event). Some (x, d)) (sym was);
        after_is = is ∙ ap₂ (λ (x y : List Event). x ++ y) (sym was) (sym rest);
        theirs = subst (AllPass (λ (e : Event). is_one_of v.lanes e.lane)) (sym rest) mine;
      }

  -- no event yet
  pub turn_begun : (v : View O) (h : List Event) (d : ℕ) → IsOnTurn (holding v h d) h d
  turn_begun v h d = on_turn (holding v h d) h [] h d refl (λ i e lt. absurd (omega arith)) (sym (append-nil h))

  -- further events
  pub turn_goes_on : (v : View O) (h es after : List Event) (d : ℕ) → IsOnTurn v h d → AllPass (λ e. is_one_of v.lanes e.lane) es → after ≡ h ++ es → IsOnTurn v after d
  turn_goes_on v h es after d t mine is =
      let was = history_at v.turn in
      let more = drop (length was) h in
      on_turn v was (more ++ es) after d t.turn
      (All-append (λ (e : Event). is_one_of v.lanes e.lane ≡ true) more es t.theirs mine)
      (is ∙ (ap (λ (x : List Event). x ++ es) t.after_is ∙ append_assoc was more es))

  -- what the desk asks for where the turn is given up, and the lanes then
  pub still_has : (v : View O) (after : List Event) (d : ℕ) → v.joined ≡ [] → IsOnTurn v after d → HasTurn v after d
  still_has v after d no_parts t = record {
    came = (history_at v.turn, d);
    turn = t.turn;
    events = record {
      more = drop (length (history_at v.turn)) after;
      after_is = t.after_is;
      theirs = subst (λ (ls : List ℕ). AllPass (λ (e : Event). is_one_of ls e.lane) (drop (length (history_at v.turn)) after)) (sym (lanes_are v no_parts)) t.theirs;
    };
    drawn = le_refl d;
  }

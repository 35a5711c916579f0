-- One position more in the chains.
use Rattle.std.proofs.Common.{◌≡◌, ℕ, suc, ◌+◌, ◌<◌, ◌≤◌, ◌==◌, cond, inl, inr, List, [], ◌∷◌, ◌++◌, length, get_or, set, All, Option, None, refl, sym, ◌∙◌, ap, ap₂, subst, arith, add-one, eq-eqb, ne_eqb, get_or-set_same, get_or-set_other, length-set}
use Rattle.std.specs.Prelude.{slice_index, option_to_list}
use Rattle.std.specs.List.{flat_map}
use Rattle.std.proofs.lemmas.Bool.{cases_eq, cond-true, cond-false}
use Rattle.std.proofs.lemmas.List.Elements.{All-head, All-tail}
use Rattle.lock_table.specs.declared.locks.NumberedLock.{NumberedLock}
use Rattle.prio_graph.specs.Ready.{set_at}
use Rattle.prio_graph.specs.Chains.{awaited, once, edges_into}
use Rattle.prio_graph.specs.Kept.{times, edges}
use Rattle.prio_graph.specs.Chained.{Chained}
use Rattle.lock_chains.specs.Passing.{awaited_by, writer_after, readers_after}
use Rattle.prio_graph.proofs.Finding.{has, any_at}
use Rattle.prio_graph.proofs.Once.{has-once}
use Rattle.prio_graph.proofs.ChainLaws.{edge-is}

module _ (sets : List (List NumberedLock)) (i : ℕ) (last : List (Option ℕ)) (readers rows : List (List ℕ)) (waits : List ℕ) (C : Chained sets i last readers rows waits) where
  awaited_by-same : (locks : List NumberedLock) → All (λ lock. lock.number < length last) locks → flat_map (awaited_by last readers) locks ≡ flat_map (awaited sets i) locks
  awaited_by-same [] a = refl
  awaited_by-same (x ∷ xs) a =
      let l = All-head (λ lock. lock.number < length last) x xs a in
      ap₂ (λ (front rest : List ℕ). front ++ rest)
      (ap₂ (λ o (rs : List ℕ). option_to_list o ++ cond x.write rs []) (C.writer x.number l) (C.since x.number l))
      (awaited_by-same xs (All-tail (λ lock. lock.number < length last) x xs a))

  -- those awaited, each once, are the earlier ends of the edges
  pub awaited-is : once (flat_map (awaited_by last readers) (set_at sets i)) ≡ edges_into sets i
  awaited-is = ap once (awaited_by-same (set_at sets i) (C.numbers i))

  -- each edge leads from a position before
  pub awaited-below : (earlier : List ℕ) → once earlier ≡ edges_into sets i → i < length sets → All (λ j. j < length rows) earlier
  awaited-below earlier e l k d m =
      let stands = any_at (λ x. x == get_or earlier k d) earlier k d m (eq-eqb (get_or earlier k d) (get_or earlier k d) refl) in
      let edge = edge-is sets i (get_or earlier k d) (ap (has (get_or earlier k d)) (sym e) ∙ (has-once (get_or earlier k d) earlier ∙ stands)) in
      let long = C.rows_length in
      let before = edge.0 in
      omega (arith, before, long, l)

  module _ (last' : List (Option ℕ)) (readers' rows' : List (List ℕ)) (earlier : List ℕ) (e : once earlier ≡ edges_into sets i) (below : i < length sets)
      (last_long : length last' ≡ length last) (readers_long : length readers' ≡ length readers) (rows_long : length rows' ≡ length rows)
      (added : (j m : ℕ) → edges rows' j m ≡ edges rows j m + cond (m == i) (times j (once earlier)) 0)
      (writers : (n : ℕ) → n < length last → get_or last' n None ≡ writer_after (set_at sets i) i n (get_or last n None))
      (since : (n : ℕ) → n < length readers → get_or readers' n [] ≡ readers_after (set_at sets i) i n (get_or readers n [])) where
    rows_now : (j m : ℕ) → m < suc i → edges rows' j m ≡ times j (edges_into sets m)
    rows_now j m l =
        elim (cases_eq m i) [
          | inl q ↦
              added j m ∙ subst (λ x. edges rows j x + cond (x == i) (times j (once earlier)) 0 ≡ times j (edges_into sets x)) (sym q)
              (let a = C.never j i (omega arith) in let b = cond-true {A = ℕ} (i == i) (times j (once earlier)) 0 (eq-eqb i i refl) in let c = ap (times j) e in omega (arith, a, b, c))
          | inr d ↦ let a = added j m in let b = C.later j m (omega arith) in let c = cond-false {A = ℕ} (m == i) (times j (once earlier)) 0 (ne_eqb m i d) in omega (arith, a, b, c)
        ]

    never_now : (j m : ℕ) → suc i ≤ m → edges rows' j m ≡ 0
    never_now j m l = let a = added j m in let b = C.never j m (omega arith) in let c = cond-false {A = ℕ} (m == i) (times j (once earlier)) 0 (ne_eqb m i (λ q. omega arith)) in omega (arith, a, b, c)

    counted_now : (m : ℕ) → m < suc i → slice_index (set waits i (length (once earlier))) m ≡ length (edges_into sets m)
    counted_now m l =
        elim (cases_eq m i) [
          | inl q ↦
              subst (λ x. slice_index (set waits i (length (once earlier))) x ≡ length (edges_into sets x)) (sym q)
              (get_or-set_same waits i (length (once earlier)) 0 (let w = C.waits_length in omega (arith, w, below)) ∙ ap length e)
          | inr d ↦ get_or-set_other waits i m (length (once earlier)) 0 d ∙ C.counted m (omega arith)
        ]

    next : Chained sets (suc i) last' readers' rows' (set waits i (length (once earlier)))
    next = record {
      numbers = λ j k d l. let u = C.numbers j k d l in omega (arith, u, last_long);
      readers_length = readers_long ∙ (C.readers_length ∙ sym last_long);
      rows_length = rows_long ∙ C.rows_length;
      waits_length = length-set waits i (length (once earlier)) ∙ C.waits_length;
      writer = λ n l. let u : n < length last = omega (arith, l, last_long) in writers n u ∙ ap (writer_after (set_at sets i) i n) (C.writer n u);
      since = λ n l.
          let u : n < length last = omega (arith, l, last_long) in
          let r = C.readers_length in
          since n (omega (arith, u, r)) ∙ ap (readers_after (set_at sets i) i n) (C.since n u);
      later = rows_now;
      never = never_now;
      counted = counted_now;
    }

    pub Chained-next : Chained sets (i + 1) last' readers' rows' (set waits i (length (once earlier)))
    Chained-next = subst (λ k. Chained sets k last' readers' rows' (set waits i (length (once earlier)))) (sym (add-one i)) next

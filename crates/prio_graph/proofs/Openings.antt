-- What a graph keeps when it is made.
use Rattle.std.proofs.Common.{◌≡◌, ℕ, ◌*◌, ◌^◌, ◌<◌, ◌≤◌, ◌==◌, not, ◌&&◌, List, length, replicate, sym, ◌∙◌, ap, subst, arith}
use Rattle.std.specs.Prelude.{slice_index}
use Rattle.std.proofs.lemmas.List.{length-replicate, get_or-replicate}
use Rattle.lock_table.specs.declared.locks.NumberedLock.{NumberedLock}
use Rattle.prio_graph.specs.declared.mark.Mark.{Mark}
use Rattle.prio_graph.specs.declared.mark.Mark.TheVariants.{Waiting, Done}
use Rattle.prio_graph.specs.Ready.{mark_at, is_waiting_mark, is_done_mark}
use Rattle.prio_graph.specs.Chains.{edges_into, counter}
use Rattle.prio_graph.specs.Trees.{IsTree, leaf}
use Rattle.prio_graph.specs.Kept.{times, edges, shown, IsGraph}
use Rattle.prio_graph.proofs.Finding.{count-all}
use Rattle.prio_graph.proofs.ChainLaws.{edge-is}

-- these are the edges of the positions
pub record Edged (sets : List (List NumberedLock)) (waits : List ℕ) (rows : List (List ℕ)) : Type 0 where
  pub waits_length : length waits ≡ length sets
  pub rows_length : length rows ≡ length sets
  pub counted : (i : ℕ) → i < length sets → slice_index waits i ≡ length (edges_into sets i)
  pub later : (j i : ℕ) → i < length sets → edges rows j i ≡ times j (edges_into sets i)
  pub never : (j i : ℕ) → length sets ≤ i → edges rows j i ≡ 0

-- this tree shows those that wait for nobody
pub record Shows (waits tree : List ℕ) : Type 0 where
  pub tree_length : length tree ≡ 2 * length waits
  pub is_tree : IsTree tree (length waits)
  pub leaves : (i : ℕ) → i < length waits → leaf tree (length waits) i ≡ shown (slice_index waits i == 0) i

module _ (sets : List (List NumberedLock)) (marks : List Mark) (waits : List ℕ) (rows : List (List ℕ)) (tree : List ℕ)
    (few : length sets < 2 ^ 32) (all : marks ≡ replicate (length sets) Waiting) (E : Edged sets waits rows) (S : Shows waits tree) where
  mark : (i : ℕ) → i < length sets → mark_at marks i ≡ Waiting
  mark i l = ap (λ ms. mark_at ms i) all ∙ get_or-replicate (length sets) i Waiting Done l

  counter-all : (i : ℕ) → i < length sets → counter sets marks i ≡ length (edges_into sets i)
  counter-all i l =
      count-all (λ j. not (is_done_mark (mark_at marks j))) (edges_into sets i)
      (λ j h. let edge = edge-is sets i j h in let before = edge.0 in ap (λ m. not (is_done_mark m)) (mark j (omega (arith, before, l))))

  pub opening_keeps : IsGraph sets marks waits rows tree
  opening_keeps =
      let same = E.waits_length in
      record {
        few = few;
        marks_length = ap length all ∙ length-replicate (length sets) Waiting;
        waits_length = same;
        rows_length = E.rows_length;
        tree_length = let t = S.tree_length in omega (arith, t, same);
        in_order = λ i l n. absurd (n (mark i l));
        counted = λ i l. E.counted i l ∙ sym (counter-all i l);
        later = E.later;
        never = E.never;
        is_tree = subst (IsTree tree) same S.is_tree;
        leaves = λ i l.
            subst (λ n. leaf tree n i ≡ shown (slice_index waits i == 0) i) same (S.leaves i (omega (arith, l, same)))
            ∙ ap (λ m. shown (is_waiting_mark m && (slice_index waits i == 0)) i) (sym (mark i l));
      }

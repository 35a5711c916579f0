-- As many positions are ready in the graph as in the core machine.
use Rattle.std.proofs.Common.{◌≡◌, ℕ, ◌<◌, ◌==◌, not, ◌&&◌, List, refl, ◌∙◌, ap, ap₂, arith}
use Rattle.std.specs.List.{IsDistinct}
use Rattle.sol_base.specs.declared.key.Key.{Key}
use Rattle.bank_law.specs.Job.{Job, same_key}
use Rattle.bank_law.specs.Machine.{Stage, waiting, held, done, State, is_waiting, is_done, conflict, count_below}
use Rattle.lock_table.specs.Numbers.{conflicts}
use Rattle.lock_table.proofs.Clashes.{conflict_clash}
use Rattle.prio_graph.specs.Ready.{Positions, set_at, mark_at, is_waiting_mark, is_done_mark, is_ready, left_before as prio_left, ready_count as graph_count}
use Rattle.prio_graph.specs.Laws.{mark_of, IsOf}
use Rattle.bank_law.proofs.Counts.{count-same}
use Rattle.bank_core.specs.Counts.{left_before, ready_count}

waits-same : (x : Stage) → is_waiting_mark (mark_of x) ≡ is_waiting x
waits-same waiting = refl
waits-same (held lane vs) = refl
waits-same (done outcome) = refl

done-same : (x : Stage) → is_done_mark (mark_of x) ≡ is_done x
done-same waiting = refl
done-same (held lane vs) = refl
done-same (done outcome) = refl

pub ready_counts : (ks : List Key) → IsDistinct same_key ks → (job : Job) (s : State) (p : Positions) → IsOf ks job s p → graph_count p ≡ ready_count job s
ready_counts ks distinct job s p of =
    ap (count_below (is_ready p)) of.count
    ∙ count-same (is_ready p) (λ i. is_waiting (s.stage i) && (left_before job s i == 0)) job.count
    (λ i l. ap₂ (λ b n. b && (n == 0)) (ap is_waiting_mark (of.marked i l) ∙ waits-same (s.stage i)) (left i l))
  where
    left : (i : ℕ) → i < job.count → prio_left p i ≡ left_before job s i
    left i l =
        count-same (λ j. conflicts (set_at p.sets j) (set_at p.sets i) && not (is_done_mark (mark_at p.marks j))) (λ j. conflict job j i && not (is_done (s.stage j))) i
        (λ j u. ap₂ (λ b d. b && not d)
        (conflict_clash ks distinct (job.locks j) (job.locks i) (set_at p.sets j) (set_at p.sets i) (of.numbered j (omega (arith, u, l))) (of.numbered i l))
        (ap is_done_mark (of.marked j (omega (arith, u, l))) ∙ done-same (s.stage j)))

-- Ready positions of the graph and of the core machine.
use Rattle.std.proofs.Common.{◌≡◌, ℕ, ◌<◌, true, refl, sym, ◌∙◌, arith}
use Rattle.bank_law.specs.Machine.{Stage, waiting, held, done, is_waiting, is_done, conflict, Ready}
use Rattle.lock_table.specs.Numbers.{conflicts}
use Rattle.lock_table.proofs.Clashes.{conflict_clash}
use Rattle.prio_graph.specs.declared.mark.Mark.TheVariants.{Waiting, Done}
use Rattle.prio_graph.specs.Ready.{set_at, IsReady}
use Rattle.prio_graph.specs.Laws.{mark_of, ReadyInTheMachine}

waits-is : (x : Stage) → mark_of x ≡ Waiting → is_waiting x ≡ true
waits-is waiting e = refl
waits-is (held lane vs) e = absurd (cc)
waits-is (done outcome) e = absurd (cc)

pub is-waits : (x : Stage) → is_waiting x ≡ true → mark_of x ≡ Waiting
is-waits waiting e = refl
is-waits (held lane vs) e = absurd (cc)
is-waits (done outcome) e = absurd (cc)

done-is : (x : Stage) → mark_of x ≡ Done → is_done x ≡ true
done-is waiting e = absurd (cc)
done-is (held lane vs) e = absurd (cc)
done-is (done outcome) e = refl

is-done : (x : Stage) → is_done x ≡ true → mark_of x ≡ Done
is-done waiting e = absurd (cc)
is-done (held lane vs) e = absurd (cc)
is-done (done outcome) e = refl

pub ready_is : ReadyInTheMachine
ready_is keys distinct job s p of i = (there, back)
  where
    same_conflict : (j i : ℕ) → j < job.count → i < job.count → conflicts (set_at p.sets j) (set_at p.sets i) ≡ conflict job j i
    same_conflict j i l m = conflict_clash keys distinct (job.locks j) (job.locks i) (set_at p.sets j) (set_at p.sets i) (of.numbered j l) (of.numbered i m)

    there : IsReady p i → Ready job s i
    there r =
        let below : i < job.count = let c = of.count in let b = r.below in omega (arith, b, c) in
        record {
          below = below;
          waits = waits-is (s.stage i) (sym (of.marked i below) ∙ r.waits);
          earlier = λ j l c. done-is (s.stage j) (sym (of.marked j (omega (arith, l, below))) ∙ r.earlier j l (same_conflict j i (omega (arith, l, below)) below ∙ c));
        }

    back : Ready job s i → IsReady p i
    back r =
        record {
          below = let c = of.count in let b = r.below in omega (arith, b, c);
          waits = of.marked i r.below ∙ is-waits (s.stage i) r.waits;
          earlier = λ j l c. let b = r.below in of.marked j (omega (arith, l, b)) ∙ is-done (s.stage j) (r.earlier j l (sym (same_conflict j i (omega (arith, l, b)) r.below) ∙ c));
        }

-- A machine after its next instruction.
use Rattle.std.proofs.Common.{◌≡◌, ◌<◌, ◌+◌, ◌-◌, ℕ, zero, suc, false, true, List, Option, Some, None, refl, ap, sym, subst, ◌∙◌, arith}
use Rattle.std.specs.Prelude.{is_none}
use Rattle.sbpf_machine.specs.declared.context.Context.{Context}
use Rattle.sbpf_machine.specs.declared.stop.Fault.TheVariants.{UnitsSpent}
use Rattle.sbpf_machine.specs.declared.stop.Stop.{Stop}
use Rattle.sbpf_machine.specs.declared.stop.Stop.TheVariants.{Fault as faulted}
use Rattle.sbpf_machine.specs.Keeping.{Keeps}
use Rattle.sbpf_machine.specs.Steps.{Next, Go, Halt, Stuck, State, here, on, after_one, state, going, halted, follow, first_stop, stepped, stepped_by, steps, steps_by, step}
use Rattle.sbpf_machine.proofs.Keeping.{same_ranges, steps_keep, ways_keep}

pub one_goes : (text : List ℕ) (place next units : ℕ) (c d : Context) → 0 < units → step text place c ≡ Go next d
    → stepped (going text place c units) ≡ Some (going text next d (units - 1))
unfolding stepped
one_goes text place next zero c d h s = absurd (omega arith)
one_goes text place next (suc units) c d h s =
    let fewer : units ≡ suc units - 1 = omega arith in
    ap (follow text place units (λ n e. Some (going text n e units))) s ∙ ap (λ n. Some (going text next d n)) fewer

pub one_stops : (text : List ℕ) (place units : ℕ) (c d : Context) (stop : Stop) → 0 < units → step text place c ≡ Halt stop d
    → stepped (going text place c units) ≡ Some (halted text place d (units - 1) stop)
unfolding stepped
one_stops text place zero c d stop h s = absurd (omega arith)
one_stops text place (suc units) c d stop h s =
    let fewer : units ≡ suc units - 1 = omega arith in
    ap (follow text place units (λ n e. Some (going text n e units))) s ∙ ap (λ n. Some (halted text place d n stop)) fewer

pub one_spent : (text : List ℕ) (place units : ℕ) (c : Context) → units ≡ 0
    → stepped (going text place c units) ≡ Some (halted text place c units (faulted UnitsSpent))
unfolding stepped
one_spent text place zero c h = refl
one_spent text place (suc units) c h = absurd (omega arith)

pub one_stays : (x : State) (stop : Option Stop) → x.stop ≡ stop → is_none stop ≡ false → stepped x ≡ Some x
unfolding stepped
one_stays x (Some stop) h t = ap (stepped_by x) h
one_stays x None h t = absurd (cc)

-- it comes to the same stop
same_row : (text : List ℕ) (place units : ℕ) (row : Next) (y : State)
    → follow text place units (λ n e. Some (going text n e units)) row ≡ Some y
    → steps y ≡ follow text place units (first_stop text units) row
unfolding steps
same_row text place units (Go next d) y e = let same : going text next d units ≡ y = cc in subst (λ z. steps z ≡ first_stop text units next d) same refl
same_row text place units (Halt stop d) y e =
    let same : halted text place d units stop ≡ y = cc in subst (λ z. steps z ≡ Some (halted text place d units stop)) same refl
same_row text place units Stuck y e = absurd (cc)

same_one : (text : List ℕ) (place : ℕ) (c : Context) (units : ℕ) (y : State) → after_one text place c units ≡ Some y → steps y ≡ first_stop text units place c
unfolding first_stop steps
same_one text place c zero y e =
    let same : halted text place c 0 (faulted UnitsSpent) ≡ y = cc in
    subst (λ z. steps z ≡ Some (halted text place c 0 (faulted UnitsSpent))) same refl
same_one text place c (suc units) y e = same_row text place units (step text place c) y e

pub stepped_same : (x y : State) → stepped x ≡ Some y → steps y ≡ steps x
unfolding stepped steps
stepped_same x y e = by_stop x.stop refl e
  where
    by_stop : (stop : Option Stop) → x.stop ≡ stop → stepped_by x stop ≡ Some y → steps_by y y.stop ≡ steps_by x stop
    by_stop (Some stop) h k =
        let same : x ≡ y = cc in subst (λ z. steps_by z z.stop ≡ Some x) same (ap (steps_by x) h)
    by_stop None h k = same_one x.text x.place x.context x.units y k

-- and keeps what a run keeps
keeps_row : (text : List ℕ) (place units : ℕ) (c : Context) (row : Next) (y : State) → step text place c ≡ row
    → follow text place units (λ n e. Some (going text n e units)) row ≡ Some y → Keeps (going text place c (suc units)) y
unfolding first_stop steps
keeps_row text place units c (Go next d) y s e =
    let same : going text next d units ≡ y = cc in
    subst (λ z. Keeps (going text place c (suc units)) z) same (ways_keep _ (going text next d units) (on here s))
keeps_row text place units c (Halt stop d) y s e =
    let same : halted text place d units stop ≡ y = cc in
    subst (λ z. Keeps (going text place c (suc units)) z) same
    (steps_keep _ (halted text place d units stop) (ap (follow text place units (first_stop text units)) s))
keeps_row text place units c Stuck y s e = absurd (cc)

keeps_one : (text : List ℕ) (place : ℕ) (c : Context) (units : ℕ) (y : State) → after_one text place c units ≡ Some y → Keeps (going text place c units) y
keeps_one text place c zero y e =
    let same : halted text place c 0 (faulted UnitsSpent) ≡ y = cc in
    subst (λ z. Keeps (going text place c 0) z) same (record { text = refl; ranges = same_ranges c.memory })
keeps_one text place c (suc units) y e = keeps_row text place units c (step text place c) y refl e

pub stepped_keeps : (x y : State) → stepped x ≡ Some y → Keeps x y
unfolding stepped
stepped_keeps x y e = by_stop x.stop refl e
  where
    by_stop : (stop : Option Stop) → x.stop ≡ stop → stepped_by x stop ≡ Some y → Keeps x y
    by_stop (Some stop) h k =
        let same : x ≡ y = cc in subst (λ z. Keeps x z) same (record { text = refl; ranges = same_ranges x.context.memory })
    by_stop None h k =
        subst (λ (z : State). Keeps z y) (ap (λ (s : Option Stop). state x.text x.place x.context x.units s) (sym h))
        (keeps_one x.text x.place x.context x.units y k)

-- how many instructions it may come to before a stop, and the stop
abbrev pub to_go_by : Option Stop → ℕ → ℕ
to_go_by None units = units + 1
to_go_by (Some stop) units = units

abbrev pub to_go : State → ℕ
to_go x = to_go_by x.stop x.units

pub stepped_nearer : (x y : State) → stepped x ≡ Some y → is_none x.stop ≡ true → to_go y < to_go x
unfolding stepped
stepped_nearer x y e going_on = by_stop x.stop refl going_on e
  where
    by_row : (units : ℕ) (row : Next) → follow x.text x.place units (λ n d. Some (going x.text n d units)) row ≡ Some y → to_go y < suc units + 1
    by_row units (Go next d) g =
        let whole : going x.text next d units ≡ y = cc in
        subst (λ (z : State). to_go z < suc units + 1) whole (omega arith)
    by_row units (Halt stop d) g =
        let whole : halted x.text x.place d units stop ≡ y = cc in
        subst (λ (z : State). to_go z < suc units + 1) whole (omega arith)
    by_row units Stuck g = absurd (cc)

    by_units : (units : ℕ) → after_one x.text x.place x.context units ≡ Some y → to_go y < units + 1
    by_units zero g =
        let whole : halted x.text x.place x.context 0 (faulted UnitsSpent) ≡ y = cc in
        subst (λ (z : State). to_go z < 1) whole (omega arith)
    by_units (suc units) g = by_row units (step x.text x.place x.context) g

    by_stop : (stop : Option Stop) → x.stop ≡ stop → is_none stop ≡ true → stepped_by x stop ≡ Some y → to_go y < to_go x
    by_stop (Some stop) h t k = absurd (cc)
    by_stop None h t k = subst (λ (s : Option Stop). to_go y < to_go_by s x.units) (sym h) (by_units x.units k)

-- Ways from one machine to another, instruction by instruction.
use Rattle.std.proofs.Common.{Bool, if◌then◌else◌, ◌≡◌, ◌<◌, ◌-◌, ℕ, zero, suc, true, false, List, [], ◌∷◌, length, Option, Some, None, refl, ap, sym, subst, ◌∙◌, arith, get_or}
use Rattle.std.specs.Prelude.{slice_get, is_some}
use Rattle.sbpf_verify.specs.Entries.{Decodes, IsDecoded}
use Rattle.sbpf_verify.specs.Places.{instruction_at, is_start, slot_count}
use Rattle.sbpf_verify.proofs.Starts.{start_there}
use Rattle.sbpf_verify.specs.Opcodes.{meaning}
use Rattle.sbpf_verify.specs.declared.entry.Entry.{Entry}
use Rattle.sbpf_machine.specs.declared.context.Context.{Context}
use Rattle.sbpf_machine.specs.declared.stop.Fault.TheVariants.{UnitsSpent}
use Rattle.sbpf_machine.specs.declared.stop.Stop.{Stop}
use Rattle.sbpf_machine.specs.declared.stop.Stop.TheVariants.{Fault as faulted}
use Rattle.sbpf_machine.specs.Flows.{operands_of}
use Rattle.sbpf_machine.specs.Runs.{EndsBy, ComesToBy}
use Rattle.sbpf_machine.specs.Steps.{Go, Halt, Operands, State, Reaches, here, on, state, going, halted, follow, first_stop, steps, steps_by, step, act, row_of, natural, operands_at, MayWant, MayWantAt}

-- what holds of both holds of the one that is chosen
pub either : {A : Type 0} (P : A → Type 0) (b : Bool) (one other : A) → P one → P other → P (if b then one else other)
either P true one other h k = h
either P false one other h k = k

-- the place of an entry, where the list has one there
pub fetched : (entries : List Entry) (place : ℕ) (other : Entry) → place < length entries → slice_get entries place ≡ Some (get_or entries place other)
fetched [] place other h = absurd (omega arith)
fetched (e ∷ entries) zero other h = refl
fetched (e ∷ entries) (suc place) other h = fetched entries place other (omega arith)

-- a place where an instruction starts has an entry
pub entry_there : (text : List ℕ) (entries : List Entry) (place : ℕ) → IsDecoded text entries → is_start text place ≡ true → place < length entries
entry_there text entries place decoded start = let below : place < slot_count text = (start_there text place start).0 in omega (arith, below, decoded.count)

-- it is the instruction there
pub decodes_at : (text : List ℕ) (entries : List Entry) (place : ℕ) (other : Entry) → IsDecoded text entries → is_start text place ≡ true → Decodes text place (get_or entries place other)
decodes_at text entries place other decoded start = decoded.each place _ (fetched entries place other (entry_there text entries place decoded start)) start

abbrev made : ℕ → ℕ → ℕ → ℕ → ℕ → Operands
made dst src target offset imm = record { dst = dst; src = src; target = target; offset = offset; imm = imm }

made_same : (d d' s s' t t' o o' i i' : ℕ) → d ≡ d' → s ≡ s' → t ≡ t' → o ≡ o' → i ≡ i' → made d s t o i ≡ made d' s' t' o' i'
made_same d d' s s' t t' o o' i i' a b e f g = rw (a, b, e, f, g) refl

-- its operands are those that its entry holds
operands_are : (text : List ℕ) (place : ℕ) (entry : Entry) → Decodes text place entry → operands_at text place (meaning entry.opcode) ≡ operands_of entry
operands_are text place entry d = made_same _ _ _ _ _ _ _ _ _ _ (sym d.dst) (sym d.src) (ap natural (sym d.target)) (sym d.offset) (sym d.imm)

-- an instruction may want memory as its entry says
pub wants_at : (text : List ℕ) (place : ℕ) (entry : Entry) (c : Context) → Decodes text place entry
    → MayWant (meaning entry.opcode) (operands_of entry) c → MayWantAt text place c (instruction_at text place)
wants_at text place entry c d wants =
    subst (MayWantAt text place c) (sym d.kind)
    (subst (λ (o : Operands). MayWant (meaning entry.opcode) o c) (sym (operands_are text place entry d)) wants)

-- an instruction is the row of its entry
pub row_is : (text : List ℕ) (place : ℕ) (entry : Entry) (c : Context) → Decodes text place entry → step text place c ≡ act (meaning entry.opcode) text (operands_of entry) place c
unfolding step
row_is text place entry c d =
    ap (row_of text place c) d.kind ∙
    ap (λ (o : Operands). act (meaning entry.opcode) text o place c) (operands_are text place entry d)

-- an instruction that goes on is a way of one more
pub on_by : (x : State) (place next units : ℕ) (c d : Context) → Reaches x (going x.text place c units) → 0 < units → step x.text place c ≡ Go next d → Reaches x (going x.text next d (units - 1))
on_by x place next zero c d way h s = absurd (omega arith)
on_by x place next (suc units) c d way h s = let fewer : units ≡ suc units - 1 = omega arith in rw (sym fewer) (on way s)

-- along a way the first stop is the same
pub stop_along : (x y : State) → Reaches x y → first_stop x.text x.units x.place x.context ≡ first_stop y.text y.units y.place y.context
unfolding first_stop
stop_along x y here = refl
stop_along x y (on {place} {next} {units} {context} {context'} way s) =
    stop_along x (going x.text place context (suc units)) way ∙ ap (follow x.text place units (first_stop x.text units)) s

-- a stop is the first at its place
pub stop_at : (text : List ℕ) (place units : ℕ) (c d : Context) (stop : Stop) → 0 < units
    → step text place c ≡ Halt stop d
    → first_stop text units place c ≡ Some (halted text place d (units - 1) stop)
unfolding first_stop
stop_at text place zero c d stop h s = absurd (omega arith)
stop_at text place (suc units) c d stop h s =
    let fewer : units ≡ suc units - 1 = omega arith in
    ap (follow text place units (first_stop text units)) s ∙ ap (λ n. Some (halted text place d n stop)) fewer

-- without a unit the stop is at hand
pub spent : (text : List ℕ) (place units : ℕ) (c : Context) → units ≡ 0 → first_stop text units place c ≡ Some (halted text place c units (faulted UnitsSpent))
unfolding first_stop
spent text place zero c h = refl
spent text place (suc units) c h = absurd (omega arith)

-- a machine that stands at a stop is at its first
pub steps_at_stop : (x : State) (stop : Stop) → x.stop ≡ Some stop → steps x ≡ Some x
unfolding steps
steps_at_stop x stop h = ap (steps_by x) h

-- what a run of the loop has come to
pub comes_to : (text : List ℕ) (place units : ℕ) (old new : Context) (to left : ℕ) (stop : Option Stop) → EndsBy text place units old (record { stop = stop; place = to; units = left }) new stop →
    ComesToBy (going text place old units) (state text to new left stop) stop
unfolding steps
comes_to text place units old new to left (Some stop) ends = ends
comes_to text place units old new to left None ends = ends

-- a machine that stands at a stop stays
pub stays : (x : State) (stop : Option Stop) → x.stop ≡ stop → is_some stop ≡ true → ComesToBy x x stop
stays x (Some stop) h t = steps_at_stop x stop h
stays x None h t = absurd (cc)

-- what is not there is None
pub not_there : (stop : Option Stop) → is_some stop ≡ false → stop ≡ None
not_there (Some stop) h = absurd (cc)
not_there None h = refl

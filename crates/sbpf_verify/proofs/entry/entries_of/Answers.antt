use Rattle.std.proofs.Common.{◌≡◌, ◌≤◌, ◌⊎◌, inl, inr, ⊎_elim, ℕ, zero, suc, true, List, [], ◌∷◌, ◌++◌, length, length-append, Some, refl, ap, sym, ◌∙◌, arith, rules}
use Rattle.std.specs.Prelude.{slice_get}
use Rattle.sbpf_verify.specs.declared.entry.Entry.{Entry}
use Rattle.sbpf_verify.specs.Entries.{Decodes}
use Rattle.sbpf_verify.specs.Places.{slot_count, max_slots, is_start}
use Rattle.sbpf_verify.proofs.Starts.{slots_there}
use Rattle.sbpf_verify.proofs.entry.entries_of.Goals as goal

-- an entry of a list with one more is one of the list or the one more
pushed : (es : List Entry) (e x : Entry) (k : ℕ) → slice_get (es ++ e ∷ []) k ≡ Some x → (slice_get es k ≡ Some x) ⊎ ((k ≡ length es) × (x ≡ e))
pushed [] e x zero h = inr (refl, cc)
pushed [] e x (suc k) h = absurd (cc)
pushed (y ∷ es) e x zero h = inl h
pushed (y ∷ es) e x (suc k) h = ⊎_elim inl (λ (p : (k ≡ length es) × (x ≡ e)). inr (ap suc p.0, p.1)) (pushed es e x k h)

abbrev EachDecodes : List ℕ → List Entry → Type 0
EachDecodes text es = (k : ℕ) (e : Entry) → slice_get es k ≡ Some e → is_start text k ≡ true → Decodes text k e

one_more : (text : List ℕ) (es new : List Entry) (place : ℕ) (e : Entry) → new ≡ es ++ e ∷ []
    → length es ≡ place → EachDecodes text es → (is_start text place ≡ true → Decodes text place e)
    → EachDecodes text new
one_more text es new place e same count each here = λ k x h start. ⊎_elim
    (λ (old : slice_get es k ≡ Some x). each k x old start)
    (λ (p : (k ≡ length es) × (x ≡ e)). let at : k ≡ place = p.0 ∙ count in rw (at, p.1) (here (rw at at start)))
    (pushed es e x k (ap (λ (l : List Entry). slice_get l k) (sym same) ∙ h))

none_yet : (text : List ℕ) (es : List Entry) → es ≡ [] → EachDecodes text es
none_yet text es same = λ k x h start. let gone : slice_get [] k ≡ Some x = ap (λ (l : List Entry). slice_get l k) (sym same) ∙ h in absurd (cc)

pub overflow_cast-place-end : goal.overflow_cast-place-end
overflow_cast-place-end c = let few : slot_count c.args.text.now ≤ max_slots = (slots_there c.args.text.now c.requires).1 in search rules

pub loop-place-init : goal.loop-place-init
loop-place-init c = record { count = ap length c.in_ok-entries.ensures; each = none_yet c.args.text.now c.in_ok-entries.entries c.in_ok-entries.ensures }

pub loop-place-preserved : goal.loop-place-preserved
loop-place-preserved c = record {
  count = ap length c.in_ok-push.ensures.ok ∙ simp length-append (omega arith);
  each = one_more c.args.text.now c.loop-place.entries _ c.loop-place.place c.entry_of.result c.in_ok-push.ensures.ok c.loop-place.invariant.count c.loop-place.invariant.each c.entry_of.ensures;
}

pub returns : goal.returns
returns c = record { count = omega arith; each = c.loop-place.invariant.each }

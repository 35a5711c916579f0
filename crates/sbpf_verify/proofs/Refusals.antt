-- The table of refusals, slot by slot.
use Rattle.std.proofs.Common.{◌≡◌, ◌<◌, ◌-◌, ◌+◌, ℕ, zero, suc, Bool, true, false, cond, List, [], ◌∷◌, ◌++◌, Option, Some, None, refl, ap, ◌∙◌, sym, arith, add-zero, append_assoc}
use Rattle.std.specs.List.{flat_map, range_with_len}
use Rattle.sbpf_verify.specs.declared.fault.VerifyFault.{VerifyFault}
use Rattle.sbpf_verify.specs.declared.fault.VerifyFault.TheVariants.{Length, OpenEnd}
use Rattle.sbpf_verify.specs.Places.{slot_count}
use Rattle.sbpf_verify.specs.Verified.{Row, row, has_bad_length, has_open_end, slot_rows, first_applying, NoneApplies, unfit, IsVerified}

-- the rows of so many slots from a place on, and then that of the end
abbrev pub rest : List ℕ → ℕ → ℕ → List Row
rest text place count = flat_map (slot_rows text) (range_with_len place count) ++ row (has_open_end text) OpenEnd ∷ []

-- where none of the first rows applies, the rest decide
pub first_on : (xs ys : List Row) → first_applying xs ≡ None → first_applying (xs ++ ys) ≡ first_applying ys
first_on [] ys h = refl
first_on (x ∷ xs) ys h = elim x.applies as
    (λ b. cond b (Some x.refusal) (first_applying xs) ≡ None
    → cond b (Some x.refusal) (first_applying (xs ++ ys)) ≡ first_applying ys)
    [ true ↦ λ k. absurd (cc) | false ↦ λ k. first_on xs ys k ] h

-- where one of the first rows applies, it decides
pub first_off : (xs ys : List Row) (fault : VerifyFault) → first_applying xs ≡ Some fault → first_applying (xs ++ ys) ≡ Some fault
first_off [] ys fault h = absurd (cc)
first_off (x ∷ xs) ys fault h = elim x.applies as
    (λ b. cond b (Some x.refusal) (first_applying xs) ≡ Some fault
    → cond b (Some x.refusal) (first_applying (xs ++ ys)) ≡ Some fault)
    [ true ↦ λ k. k | false ↦ λ k. first_off xs ys fault k ] h

append_assoc_rows : (xs ys zs : List Row) → (xs ++ ys) ++ zs ≡ xs ++ (ys ++ zs)
append_assoc_rows xs ys zs = simp append_assoc

-- one slot more
rest-suc : (text : List ℕ) (place count : ℕ) → rest text place (suc count) ≡ slot_rows text place ++ rest text (place + 1) count
rest-suc text place count = append_assoc_rows (slot_rows text place) (flat_map (slot_rows text) (range_with_len (place + 1) count)) (row (has_open_end text) OpenEnd ∷ [])

-- past a slot that is not refused
pub rest_on : (text : List ℕ) (place count : ℕ) → 0 < count → first_applying (slot_rows text place) ≡ None → first_applying (rest text place count) ≡ first_applying (rest text (place + 1) (count - 1))
rest_on text place zero h e = absurd (omega arith)
rest_on text place (suc count) h e =
    let fewer : count ≡ suc count - 1 = omega arith in
    ap first_applying (rest-suc text place count) ∙ first_on (slot_rows text place) (rest text (place + 1) count) e ∙ ap (λ n. first_applying (rest text (place + 1) n)) fewer

-- at a slot that is refused
pub rest_off : (text : List ℕ) (place count : ℕ) (fault : VerifyFault) → 0 < count → first_applying (slot_rows text place) ≡ Some fault → first_applying (rest text place count) ≡ Some fault
rest_off text place zero fault h e = absurd (omega arith)
rest_off text place (suc count) fault h e =
    ap first_applying (rest-suc text place count) ∙ first_off (slot_rows text place) (rest text (place + 1) count) fault e

-- after the last slot
pub rest_end : (text : List ℕ) (place count : ℕ) → count ≡ 0 → first_applying (rest text place count) ≡ cond (has_open_end text) (Some OpenEnd) None
rest_end text place count e = ap (λ n. first_applying (rest text place n)) e

-- a text of a bad length
pub unfit_len : (text : List ℕ) → has_bad_length text ≡ true → unfit text ≡ Some Length
unfolding unfit
unfit_len text h = ap (λ (b : Bool). cond b (Some Length) (first_applying (rest text 0 (slot_count text)))) h

-- a text of a good length
pub unfit_rest : (text : List ℕ) → has_bad_length text ≡ false → unfit text ≡ first_applying (rest text 0 (slot_count text))
unfolding unfit
unfit_rest text h = ap (λ (b : Bool). cond b (Some Length) (first_applying (rest text 0 (slot_count text)))) h

-- where no row applies, there is no refusal
pub no_refusal : (rows : List Row) → NoneApplies rows → first_applying rows ≡ None
no_refusal [] h = refl
no_refusal (r ∷ rows) h = ap (λ (b : Bool). cond b (Some r.refusal) (first_applying rows)) h.0 ∙ no_refusal rows h.1

-- where there is no refusal, no row applies
pub none_applies : (rows : List Row) → first_applying rows ≡ None → NoneApplies rows
none_applies [] h = tt
none_applies (r ∷ rows) h = (passes r.applies (first_applying rows) h, none_applies rows (others r.applies (first_applying rows) h))
  where
    passes : (b : Bool) (x : Option VerifyFault) → cond b (Some r.refusal) x ≡ None → b ≡ false
    passes true x h = absurd (cc)
    passes false x h = refl

    others : (b : Bool) (x : Option VerifyFault) → cond b (Some r.refusal) x ≡ None → x ≡ None
    others true x h = absurd (cc)
    others false x h = h

one_none : (b : Bool) (f : VerifyFault) (x y z : Option VerifyFault) → (x ≡ None → (y ≡ None) × (z ≡ None)) → cond b (Some f) x ≡ None → (cond b (Some f) y ≡ None) × (z ≡ None)
one_none true f x y z k h = absurd (cc)
one_none false f x y z k h = k h

-- where there is no refusal in two lists of rows, there is none in either
both_none : (xs ys : List Row) → first_applying (xs ++ ys) ≡ None → (first_applying xs ≡ None) × (first_applying ys ≡ None)
both_none [] ys h = (refl, h)
both_none (x ∷ xs) ys h = one_none x.applies x.refusal _ _ _ (both_none xs ys) h

rest_both : (text : List ℕ) (place count : ℕ) → first_applying (rest text place (suc count)) ≡ None
    → (first_applying (slot_rows text place) ≡ None) × (first_applying (rest text (place + 1) count) ≡ None)
rest_both text place count h = both_none (slot_rows text place) (rest text (place + 1) count) (ap first_applying (sym (rest-suc text place count)) ∙ h)

each_none : (text : List ℕ) (place count i : ℕ) → first_applying (rest text place count) ≡ None → i < count → NoneApplies (slot_rows text (place + i))
each_none text place zero i h l = absurd (omega arith)
each_none text place (suc count) zero h l =
    let same : place + 0 ≡ place = add-zero place in rw same (none_applies (slot_rows text place) (rest_both text place count h).0)
each_none text place (suc count) (suc i) h l =
    let same : place + suc i ≡ (place + 1) + i = omega arith in
    let less : i < count = omega arith in
    rw same (each_none text (place + 1) count i (rest_both text place count h).1 less)

end_none : (text : List ℕ) (place count : ℕ) → first_applying (rest text place count) ≡ None → has_open_end text ≡ false
end_none text place zero h = (none_applies (row (has_open_end text) OpenEnd ∷ []) h).0
end_none text place (suc count) h = end_none text (place + 1) count (rest_both text place count h).1

rest_none : (text : List ℕ) (place count : ℕ) → ((i : ℕ) → i < count → NoneApplies (slot_rows text (place + i))) → has_open_end text ≡ false → first_applying (rest text place count) ≡ None
rest_none text place zero each end = no_refusal (row (has_open_end text) OpenEnd ∷ []) (end, tt)
rest_none text place (suc count) each end =
    let here : NoneApplies (slot_rows text place) = let same : place ≡ place + 0 = sym (add-zero place) in rw same (each 0 (omega arith)) in
    ap first_applying (rest-suc text place count) ∙ first_on (slot_rows text place) (rest text (place + 1) count) (no_refusal (slot_rows text place) here) ∙
    rest_none text (place + 1) count (λ i l. let same : place + 1 + i ≡ place + suc i = omega arith in let more : suc i < suc count = omega arith in rw same (each (suc i) more)) end

good_len : (text : List ℕ) → unfit text ≡ None → has_bad_length text ≡ false
unfolding unfit
good_len text h = (none_applies (row (has_bad_length text) Length ∷ rest text 0 (slot_count text)) h).0

-- a text without a refusal is verified
pub verified_from_none : (text : List ℕ) → unfit text ≡ None → IsVerified text
verified_from_none text h =
    let none : first_applying (rest text 0 (slot_count text)) ≡ None = sym (unfit_rest text (good_len text h)) ∙ h in
    record {
      len = good_len text h;
      slots = λ place l. let same : place ≡ 0 + place = omega arith in rw same (each_none text 0 (slot_count text) place none l);
      end = end_none text 0 (slot_count text) none;
    }

-- a verified text has no refusal
pub unfit_none : (text : List ℕ) → IsVerified text → unfit text ≡ None
unfit_none text v =
    unfit_rest text v.len ∙ rest_none text 0 (slot_count text) (λ i l. let same : 0 + i ≡ i = omega arith in rw same (v.slots i l)) v.end

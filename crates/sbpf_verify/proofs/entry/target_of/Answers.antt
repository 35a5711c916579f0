use Rattle.std.proofs.Common.{◌≡◌, ◌<◌, ℕ, ap, sym, ◌∙◌, arith, unwrap_or, pos, ℤ, rules, w32, w64, Fits, T, to_z, of_z, refl}
use Rattle.std.specs.Int.Signed.{non_neg}
use Rattle.std.proofs.Math.IntN.{nat_abs}
use Rattle.std.proofs.lemmas.Int.{ints}
use Rattle.sbpf_verify.specs.Places.{leads_to, max_slots}
use Rattle.sbpf_verify.proofs.Starts.{natural_target}
use Rattle.sbpf_verify.proofs.entry.target_of.Goals as goal

back : (n : ℕ) → n < max_slots → to_z w64 (of_z w64 (pos n)) ≡ pos n
back n h = omega (arith, ints)

fits : (z : ℤ) (n : ℕ) → z ≡ pos n → n < max_slots → T (non_neg (to_z w64 (of_z w64 z))) × Fits w32 (nat_abs (to_z w64 (of_z w64 z)))
fits z n e h = rw (e, back n h) (tt, search rules)

same : (z : ℤ) (n : ℕ) → z ≡ pos n → n < max_slots → pos (nat_abs (to_z w64 (of_z w64 z))) ≡ z
same z n e h = rw (e, back n h) refl

natural : (c : goal.In-Some) → (n : ℕ) × ((c.in-Some.target ≡ pos n) × (n < max_slots))
natural c =
    natural_target c.args.text.now c.args.place c.args.kind c.in-Some.target c.requires.verified c.requires.there
    (ap (λ slot. leads_to c.args.kind slot c.args.place) (sym c.requires.same) ∙ sym c.leads_to.ensures ∙ c.in-Some.is)

pub overflow_cast-result : goal.overflow_cast-result
overflow_cast-result c = fits c.in-Some.target (natural c).0 (natural c).1.0 (natural c).1.1

pub returns-in-Some : goal.returns-in-Some
returns-in-Some c =
    same c.in-Some.target (natural c).0 (natural c).1.0 (natural c).1.1 ∙
    sym (ap (λ o. unwrap_or o (pos 0)) (sym c.leads_to.ensures ∙ c.in-Some.is))

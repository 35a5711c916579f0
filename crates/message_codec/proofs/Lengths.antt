-- Compact lengths: what is spelled is read again, what is read is spelled so, and which refusal comes where.
use Rattle.std.proofs.Common.{get_or, ◌≡◌, ◌≢◌, ◌<◌, ◌≤◌, ◌+◌, ◌-◌, ◌*◌, ◌/◌, ◌%◌, ℕ, suc, List, [], ◌∷◌, ◌++◌, Ok, Err, Bool, true, false, ◌||◌, ◌⊎◌, inl, inr, refl, sym, ap, subst, ◌∙◌, nat_lt, cond, arith}
use Rattle.std.specs.Prelude.{nat_eq, ◌↔◌}
use Rattle.std.proofs.lemmas.Bool.Decides.{nat_tests}
use Rattle.spec_base.specs.Bytes.{IsBytes}
use Rattle.spec_base.specs.Reading.{place}
use Rattle.spec_base.proofs.Binding.{chosen, not_refused, ok_parts}
use Rattle.spec_base.proofs.Formats.{Reads}
use Rattle.message_codec.specs.declared.fault.WireFault.{WireFault}
use Rattle.message_codec.specs.declared.fault.WireFault.TheVariants.{Truncated, BadLength}
use Rattle.message_codec.specs.Compact.{compact, max_count, digits_value, AreLaterDigits, AreDigits, BeginsWithLength, IsCutLength}
use Rattle.message_codec.specs.WireReading.{Read, compact_at, second_at, third_at}

pub one_digit : (v : ℕ) → v < 128 → compact v ≡ v ∷ []
unfolding compact
one_digit v h = grind (arith, nat_tests)

pub two_digits : (v : ℕ) → 128 ≤ v → v < 16384 → compact v ≡ (v % 128 + 128) ∷ (v / 128) ∷ []
unfolding compact
two_digits v g h = grind (arith, nat_tests)

pub three_digits : (v : ℕ) → 16384 ≤ v → compact v ≡ (v % 128 + 128) ∷ (v / 128 % 128 + 128) ∷ (v / 16384) ∷ []
unfolding compact
three_digits v g = grind (arith, nat_tests)

-- how many digits a number has
pub digits : (v : ℕ) → (v < 128) ⊎ ((128 ≤ v) × (v < 16384)) ⊎ (16384 ≤ v)
digits v = go (nat_lt v 128) (nat_lt v 16384) refl refl
  where
    go : (s t : Bool) → nat_lt v 128 ≡ s → nat_lt v 16384 ≡ t → (v < 128) ⊎ ((128 ≤ v) × (v < 16384)) ⊎ (16384 ≤ v)
    go true t e f = inl (grind (arith, nat_tests))
    go false true e f = inr (inl (grind (arith, nat_tests), grind (arith, nat_tests)))
    go false false e f = inr (inr (grind (arith, nat_tests)))

-- the digits of a number

are_digits : (v : ℕ) → v ≤ max_count → AreDigits (compact v) × (digits_value (compact v) ≡ v)
are_digits v le = elim (digits v) [
  | inl small ↦ rw (one_digit v small) (small, omega arith)
  | inr (inl two) ↦ rw (two_digits v two.0 two.1) ((omega arith, omega arith, (omega arith, omega arith)), of_two v two.0 two.1)
  | inr (inr three) ↦ rw (three_digits v three) ((omega arith, omega arith, (omega arith, omega arith, (omega arith, omega arith))), of_three v three le)
]
  where
    of_two : (v : ℕ) → 128 ≤ v → v < 16384 → digits_value ((v % 128 + 128) ∷ (v / 128) ∷ []) ≡ v
    of_two v g h =
        let a : (v % 128 + 128) % 128 ≡ v % 128 = omega arith in
        let b : v / 128 % 128 ≡ v / 128 = omega arith in
        omega (arith, a, b)

    of_three : (v : ℕ) → 16384 ≤ v → v ≤ max_count → digits_value ((v % 128 + 128) ∷ (v / 128 % 128 + 128) ∷ (v / 16384) ∷ []) ≡ v
    of_three v g h =
        let a : (v % 128 + 128) % 128 ≡ v % 128 = omega arith in
        let b : (v / 128 % 128 + 128) % 128 ≡ v / 128 % 128 = omega arith in
        let c : v / 16384 % 128 ≡ v / 16384 = omega arith in
        omega (arith, a, b, c)

-- the last of later digits counts
later_value : (bytes : List ℕ) → AreLaterDigits bytes → 1 ≤ digits_value bytes
later_value [] h = absurd h
later_value (a ∷ []) h = let above = h.0 in let below = h.1 in omega arith
later_value (a ∷ b ∷ bs) h = let later : 1 ≤ digits_value (b ∷ bs) = later_value (b ∷ bs) h.2 in omega arith

from_digits : (v : ℕ) (bytes : List ℕ) → v ≤ max_count → AreDigits bytes → digits_value bytes ≡ v → bytes ≡ compact v
from_digits v [] le h e = absurd h
from_digits v (a ∷ []) le h e =
    let small : v < 128 = omega arith in
    let same : a ≡ v = omega arith in
    rw (one_digit v small, same) refl
from_digits v (a ∷ b ∷ []) le h e =
    let first = h.0 in
    let byte = h.1 in
    let second = h.2.0 in
    let below = h.2.1 in
    let m : v % 128 + 128 ≡ a = omega arith in
    let d : v / 128 ≡ b = omega arith in
    sym (two_digits v (omega arith) (omega arith) ∙ rw (m, d) refl)
from_digits v (a ∷ b ∷ c ∷ []) le h e =
    let first = h.0 in
    let byte = h.1 in
    let second = h.2.0 in
    let also = h.2.1 in
    let third = h.2.2.0 in
    let below = h.2.2.1 in
    let m : v % 128 + 128 ≡ a = omega arith in
    let d : v / 128 % 128 + 128 ≡ b = omega arith in
    let t : v / 16384 ≡ c = omega arith in
    sym (three_digits v (omega arith) ∙ rw (m, d, t) refl)
from_digits v (a ∷ b ∷ c ∷ d ∷ ds) le h e =
    let later : 1 ≤ digits_value (d ∷ ds) = later_value (d ∷ ds) h.2.2.2 in
    absurd (omega arith)

pub one_spelling : (v : ℕ) (bytes : List ℕ) → v ≤ max_count → (bytes ≡ compact v) ↔ (AreDigits bytes × (digits_value bytes ≡ v))
one_spelling v bytes le = (λ e. subst (λ (l : List ℕ). AreDigits l × (digits_value l ≡ v)) (sym e) (are_digits v le), λ h. from_digits v bytes le h.0 h.1)

again : (total v : ℕ) (rest : List ℕ) → v ≤ max_count → compact_at total (compact v ++ rest) ≡ Ok (v, rest)
unfolding compact_at
again total v rest h = elim (digits v) [
  | inl small ↦ rw (one_digit v small) (grind (arith, nat_tests))
  | inr (inl two) ↦ rw (two_digits v two.0 two.1) (grind (arith, nat_tests))
  | inr (inr three) ↦ rw (three_digits v three) (grind (arith, nat_tests))
]

third_takes : (at low : ℕ) (bytes : List ℕ) (v : ℕ) (rest : List ℕ) → third_at at low bytes ≡ Ok (v, rest)
    → (c : ℕ) × (bytes ≡ c ∷ rest) × (0 < c) × (c ≤ 3) × (v ≡ low + 16384 * c)
third_takes at low [] v rest h = absurd (not_refused h)
third_takes at low (c ∷ bs) v rest h =
    elim (chosen (nat_eq c 0 || nat_lt 3 c) (Err (BadLength at)) (Ok (low + 16384 * c, bs)) (Ok (v, rest)) h) [
      | inl p ↦ absurd (not_refused p.1)
      | inr q ↦ let k = ok_parts _ _ _ _ q.1 in (c, ap (λ (l : List ℕ). c ∷ l) k.1, (in_range c q.0).0, (in_range c q.0).1, sym k.0)
    ]
  where
    in_range : (c : ℕ) → (nat_eq c 0 || nat_lt 3 c) ≡ false → (0 < c) × (c ≤ 3)
    in_range c e = grind (arith, nat_tests)

second_takes : (at low : ℕ) (bytes : List ℕ) (v : ℕ) (rest : List ℕ) → low < 128 → IsBytes bytes → second_at at low bytes ≡ Ok (v, rest)
    → (v ≤ max_count) × ((low + 128) ∷ bytes ≡ compact v ++ rest)
second_takes at low [] v rest lt are h = absurd (not_refused h)
second_takes at low (b ∷ bs) v rest lt are h =
    elim (chosen (nat_lt b 128) _ _ _ h) [
      | inl p ↦ elim (chosen (nat_eq b 0) (Err (BadLength at)) (Ok (low + 128 * b, bs)) (Ok (v, rest)) p.1) [
        | inl z ↦ absurd (not_refused z.1)
        | inr q ↦ let k = ok_parts _ _ _ _ q.1 in two b p.0 q.0 k.0 k.1
      ]
      | inr q ↦ let t = third_takes at (low + 128 * (b - 128)) bs v rest q.1 in three b t.0 (over b q.0) (are 0) t.1 t.2 t.3 t.4
    ]
  where
    over : (b : ℕ) → nat_lt b 128 ≡ false → 128 ≤ b
    over b e = grind (arith, nat_tests)

    two : (b : ℕ) → nat_lt b 128 ≡ true → nat_eq b 0 ≡ false → low + 128 * b ≡ v → bs ≡ rest → (v ≤ max_count) × ((low + 128) ∷ b ∷ bs ≡ compact v ++ rest)
    two b p q e f =
        let less : b < 128 = grind (arith, nat_tests) in
        let more : 0 < b = grind (arith, nat_tests) in
        let m : v % 128 ≡ low = omega arith in
        let d : v / 128 ≡ b = omega arith in
        (omega arith, rw (two_digits v (omega arith) (omega arith), m, d, f) refl)

    three : (b c : ℕ) → 128 ≤ b → b < 256 → bs ≡ c ∷ rest → 0 < c → c ≤ 3 → v ≡ low + 128 * (b - 128) + 16384 * c → (v ≤ max_count) × ((low + 128) ∷ b ∷ bs ≡ compact v ++ rest)
    three b c over byte f more few e =
        let m : v % 128 ≡ low = omega arith in
        let d : v / 128 % 128 + 128 ≡ b = omega arith in
        let t : v / 16384 ≡ c = omega arith in
        (omega arith, rw (three_digits v (omega arith), m, d, t, f) refl)

takes : (total : ℕ) (bytes : List ℕ) (v : ℕ) (rest : List ℕ) → IsBytes bytes → compact_at total bytes ≡ Ok (v, rest) → (v ≤ max_count) × (bytes ≡ compact v ++ rest)
unfolding compact_at
takes total [] v rest are h = absurd (not_refused h)
takes total (a ∷ bs) v rest are h =
    elim (chosen (nat_lt a 128) _ _ _ h) [
      | inl p ↦ let k = ok_parts _ _ _ _ p.1 in one a p.0 k.0 k.1
      | inr q ↦
          let over : 128 ≤ a = big a q.0 in
          let byte : a < 256 = are 0 in
          let t = second_takes (place total (a ∷ bs)) (a - 128) bs v rest (omega arith) (λ i. are (suc i)) q.1 in
          let back : a - 128 + 128 ≡ a = omega arith in
          (t.0, rw back at t.1)
    ]
  where
    big : (a : ℕ) → nat_lt a 128 ≡ false → 128 ≤ a
    big a e = grind (arith, nat_tests)

    one : (a : ℕ) → nat_lt a 128 ≡ true → a ≡ v → bs ≡ rest → (v ≤ max_count) × (a ∷ bs ≡ compact v ++ rest)
    one a p e f =
        let small : v < 128 = grind (arith, nat_tests) in
        (omega arith, rw (one_digit v small, ← e, f) refl)

pub length_reads : (total : ℕ) → Reads (compact_at total) compact (λ v. v ≤ max_count)
length_reads total = record { again = again total; takes = takes total }

-- which answer comes where

-- a value, or one of two refusals at the place
abbrev OfThree : ℕ → Read ℕ → Type 0
OfThree at (Ok x) = Unit {0}
OfThree at (Err e) = (e ≡ Truncated at) ⊎ (e ≡ BadLength at)

either : (at : ℕ) (test : Bool) (x y : Read ℕ) → OfThree at x → OfThree at y → OfThree at (cond test x y)
either at true x y h k = h
either at false x y h k = k

third_answers : (at low : ℕ) (bytes : List ℕ) → OfThree at (third_at at low bytes)
third_answers at low [] = inl refl
third_answers at low (c ∷ rest) = either at (nat_eq c 0 || nat_lt 3 c) (Err (BadLength at)) (Ok (low + 16384 * c, rest)) (inr refl) tt

second_answers : (at low : ℕ) (bytes : List ℕ) → OfThree at (second_at at low bytes)
second_answers at low [] = inl refl
second_answers at low (b ∷ rest) =
    either at (nat_lt b 128) (cond (nat_eq b 0) (Err (BadLength at)) (Ok (low + 128 * b, rest))) (third_at at (low + 128 * (b - 128)) rest)
    (either at (nat_eq b 0) (Err (BadLength at)) (Ok (low + 128 * b, rest)) (inr refl) tt) (third_answers at (low + 128 * (b - 128)) rest)

answers : (total : ℕ) (bytes : List ℕ) → OfThree (place total bytes) (compact_at total bytes)
unfolding compact_at
answers total [] = inl refl
answers total (a ∷ rest) = either (place total (a ∷ rest)) (nat_lt a 128) (Ok (a, rest)) (second_at (place total (a ∷ rest)) (a - 128) rest) tt (second_answers (place total (a ∷ rest)) (a - 128) rest)

-- the proper prefixes of one to three digits

prefix_of_one : (bytes rest : List ℕ) (a : ℕ) → rest ≢ [] → bytes ++ rest ≡ a ∷ [] → bytes ≡ []
prefix_of_one [] rest a more e = refl
prefix_of_one (b ∷ []) rest a more e = absurd (more (cc))
prefix_of_one (b ∷ c ∷ bs) rest a more e = absurd (cc)

prefix_of_two : (bytes rest : List ℕ) (a b : ℕ) → rest ≢ [] → bytes ++ rest ≡ a ∷ b ∷ [] → (bytes ≡ []) ⊎ (bytes ≡ a ∷ [])
prefix_of_two [] rest a b more e = inl refl
prefix_of_two (x ∷ bs) rest a b more e =
    let tail : bs ≡ [] = prefix_of_one bs rest b more (cc) in
    inr (cc)

prefix_of_three : (bytes rest : List ℕ) (a b c : ℕ) → rest ≢ [] → bytes ++ rest ≡ a ∷ b ∷ c ∷ [] → (bytes ≡ []) ⊎ ((bytes ≡ a ∷ []) ⊎ (bytes ≡ a ∷ b ∷ []))
prefix_of_three [] rest a b c more e = inl refl
prefix_of_three (x ∷ bs) rest a b c more e =
    let tail : (bs ≡ []) ⊎ (bs ≡ b ∷ []) = prefix_of_two bs rest b c more (cc) in
    elim tail [ inl t ↦ inr (inl (cc)) | inr t ↦ inr (inr (cc)) ]

abbrev IsCut : ℕ → List ℕ → Type 0
IsCut total bytes = compact_at total bytes ≡ Err (Truncated (place total bytes))

cut_none : (total : ℕ) (bytes : List ℕ) → bytes ≡ [] → IsCut total bytes
unfolding compact_at
cut_none total bytes e = rw e refl

cut_one : (total : ℕ) (bytes : List ℕ) (a : ℕ) → 128 ≤ a → bytes ≡ a ∷ [] → IsCut total bytes
unfolding compact_at
cut_one total bytes a over e =
    let big : nat_lt a 128 ≡ false = grind (arith, nat_tests) in
    rw (e, big) refl

cut_two : (total : ℕ) (bytes : List ℕ) (a b : ℕ) → 128 ≤ a → 128 ≤ b → bytes ≡ a ∷ b ∷ [] → IsCut total bytes
unfolding compact_at
cut_two total bytes a b over also e =
    let big : nat_lt a 128 ≡ false = grind (arith, nat_tests) in
    let great : nat_lt b 128 ≡ false = grind (arith, nat_tests) in
    rw (e, big, great) refl

cut_is_truncated : (total : ℕ) (bytes : List ℕ) → IsCutLength bytes → IsCut total bytes
cut_is_truncated total bytes (v, rest, fits, more, e) = elim (digits v) [
  | inl small ↦ cut_none total bytes (prefix_of_one bytes rest v more (e ∙ one_digit v small))
  | inr (inl two) ↦ elim (prefix_of_two bytes rest (v % 128 + 128) (v / 128) more (e ∙ two_digits v two.0 two.1)) [
    | inl p ↦ cut_none total bytes p
    | inr p ↦ cut_one total bytes (v % 128 + 128) (omega arith) p
  ]
  | inr (inr three) ↦ elim (prefix_of_three bytes rest (v % 128 + 128) (v / 128 % 128 + 128) (v / 16384) more (e ∙ three_digits v three)) [
    | inl p ↦ cut_none total bytes p
    | inr (inl p) ↦ cut_one total bytes (v % 128 + 128) (omega arith) p
    | inr (inr p) ↦ cut_two total bytes (v % 128 + 128) (v / 128 % 128 + 128) (omega arith) (omega arith) p
  ]
]

-- the least length that two or three bytes begin, with a last digit of 1
cut_after_one : (a : ℕ) → 128 ≤ a → a < 256 → IsCutLength (a ∷ [])
cut_after_one a over byte =
    let m : a % 128 + 128 ≡ a = omega arith in
    let d : a / 128 ≡ 1 = omega arith in
    (a, 1 ∷ [], omega arith, λ e. cc, sym (rw (two_digits a over (omega arith), m, d) refl))

cut_after_two : (a b : ℕ) → 128 ≤ a → a < 256 → 128 ≤ b → b < 256 → IsCutLength (a ∷ b ∷ [])
cut_after_two a b over byte also second =
    let v = a - 128 + 128 * (b - 128) + 16384 in
    let m : v % 128 + 128 ≡ a = omega arith in
    let d : v / 128 % 128 + 128 ≡ b = omega arith in
    let t : v / 16384 ≡ 1 = omega arith in
    (v, 1 ∷ [], omega arith, λ e. cc, sym (rw (three_digits v (omega arith), m, d, t) refl))

-- a value, or a bad length, is no cut
not_cut : {e : WireFault} {x : ℕ × List ℕ} → (let l : Read ℕ = Ok x in l) ≡ Err e → ⊥
not_cut h = cc

not_both : {at place : ℕ} → (let l : Read ℕ = Err (BadLength at) in l) ≡ Err (Truncated place) → ⊥
not_both h = cc

third_cut : (at low : ℕ) (bytes : List ℕ) → third_at at low bytes ≡ Err (Truncated at) → bytes ≡ []
third_cut at low [] h = refl
third_cut at low (c ∷ rest) h = elim (chosen (nat_eq c 0 || nat_lt 3 c) (Err (BadLength at)) (Ok (low + 16384 * c, rest)) (Err (Truncated at)) h) [
  | inl p ↦ absurd (not_both p.1)
  | inr q ↦ absurd (not_cut q.1)
]

-- nothing, or a digit that another follows
second_cut : (at low : ℕ) (bytes : List ℕ) → second_at at low bytes ≡ Err (Truncated at) → (bytes ≡ []) ⊎ ((b : ℕ) × (128 ≤ b) × (bytes ≡ b ∷ []))
second_cut at low [] h = inl refl
second_cut at low (b ∷ rest) h = elim (chosen (nat_lt b 128) _ _ _ h) [
  | inl p ↦ elim (chosen (nat_eq b 0) (Err (BadLength at)) (Ok (low + 128 * b, rest)) (Err (Truncated at)) p.1) [
    | inl z ↦ absurd (not_both z.1)
    | inr q ↦ absurd (not_cut q.1)
  ]
  | inr q ↦ inr (b, big q.0, ap (λ (l : List ℕ). b ∷ l) (third_cut at (low + 128 * (b - 128)) rest q.1))
]
  where
    big : nat_lt b 128 ≡ false → 128 ≤ b
    big e = grind (arith, nat_tests)

truncated_is_cut : (total : ℕ) (bytes : List ℕ) → IsBytes bytes → IsCut total bytes → IsCutLength bytes
unfolding compact_at
truncated_is_cut total [] are h = (0, 0 ∷ [], omega arith, λ e. cc, sym (one_digit 0 (omega arith)))
truncated_is_cut total (a ∷ rest) are h = elim (chosen (nat_lt a 128) _ _ _ h) [
  | inl p ↦ absurd (not_cut p.1)
  | inr q ↦
      let over : 128 ≤ a = big q.0 in
      elim (second_cut (place total (a ∷ rest)) (a - 128) rest q.1) [
        | inl none ↦ subst (λ (l : List ℕ). IsCutLength (a ∷ l)) (sym none) (cut_after_one a over (are 0))
        | inr (b, also, one) ↦
            let second : b < 256 = subst (λ (l : List ℕ). get_or l 0 0 < 256) one (are 1) in
            subst (λ (l : List ℕ). IsCutLength (a ∷ l)) (sym one) (cut_after_two a b over (are 0) also second)
      ]
]
  where
    big : nat_lt a 128 ≡ false → 128 ≤ a
    big e = grind (arith, nat_tests)

-- the law

spelled_is_read : (total : ℕ) (bytes : List ℕ) (v : ℕ) (rest : List ℕ) → (v ≤ max_count) × (bytes ≡ compact v ++ rest) → compact_at total bytes ≡ Ok (v, rest)
spelled_is_read total bytes v rest h = subst (λ (l : List ℕ). compact_at total l ≡ Ok (v, rest)) (sym h.1) (again total v rest h.0)

bad_is_neither : (total : ℕ) (bytes : List ℕ) → compact_at total bytes ≡ Err (BadLength (place total bytes)) → (¬ BeginsWithLength bytes) × (¬ IsCutLength bytes)
bad_is_neither total bytes h =
    (λ (v, rest, fits, e). let read = spelled_is_read total bytes v rest (fits, e) in not_cut (sym read ∙ h), λ cut. let read = cut_is_truncated total bytes cut in not_both (sym h ∙ read))

neither_is_bad : (total : ℕ) (bytes : List ℕ) → IsBytes bytes → (¬ BeginsWithLength bytes) × (¬ IsCutLength bytes) → compact_at total bytes ≡ Err (BadLength (place total bytes))
neither_is_bad total bytes are h = go (compact_at total bytes) refl (answers total bytes)
  where
    go : (read : Read ℕ) → compact_at total bytes ≡ read → OfThree (place total bytes) read → read ≡ Err (BadLength (place total bytes))
    go (Ok x) e three = let t = takes total bytes x.0 x.1 are e in absurd (h.0 (x.0, x.1, t.0, t.1))
    go (Err fault) e (inl cut) = absurd (h.1 (truncated_is_cut total bytes are (e ∙ ap (λ (f : WireFault). Err f) cut)))
    go (Err fault) e (inr bad) = ap (λ (f : WireFault). Err f) bad

-- which answer comes of a compact length
pub length_value : (total : ℕ) (bytes : List ℕ) → IsBytes bytes → (v : ℕ) (rest : List ℕ) → (compact_at total bytes ≡ Ok (v, rest)) ↔ ((v ≤ max_count) × (bytes ≡ compact v ++ rest))
length_value total bytes are v rest = (takes total bytes v rest are, spelled_is_read total bytes v rest)

pub length_cut : (total : ℕ) (bytes : List ℕ) → IsBytes bytes → (compact_at total bytes ≡ Err (Truncated (place total bytes))) ↔ IsCutLength bytes
length_cut total bytes are = (truncated_is_cut total bytes are, cut_is_truncated total bytes)

pub length_bad : (total : ℕ) (bytes : List ℕ) → IsBytes bytes → (compact_at total bytes ≡ Err (BadLength (place total bytes))) ↔ ((¬ BeginsWithLength bytes) × (¬ IsCutLength bytes))
length_bad total bytes are = (bad_is_neither total bytes, neither_is_bad total bytes are)

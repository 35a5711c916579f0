-- Two halves that are written one after the other.
use Rattle.std.proofs.Common.{◌≡◌, ◌≤◌, ◌+◌, ◌∙◌, ℕ, List, [], ◌++◌, length, take, drop, sym, ap, subst, append-nil, length-append, arith}
use Rattle.std.proofs.Math.Seq.{take-append_seam}
use Rattle.std.proofs.lemmas.List.{drop_all, length-drop, length-take-le, take-append-drop}

-- 32 bytes over the first half of 64, and 32 over the second, by what stands before each place of
-- the whole and behind it
pub halves : (first second a b zs whole : List ℕ) → a ≡ first → b ≡ second → length a ≡ 32 → length b ≡ length (take 32 (drop 32 (a ++ zs))) → length zs ≡ 32
    → ((n : ℕ) → n ≡ 32 + length b → 32 ≤ length (a ++ zs) → take n whole ≡ take 32 (a ++ zs) ++ b)
    → ((n : ℕ) → 32 + 32 ≤ n → 32 ≤ length (a ++ zs) → length b ≡ 32 → drop n whole ≡ drop n (a ++ zs))
    → whole ≡ first ++ second
halves first second a b zs whole one two long wide rest before behind =
    let other : length b ≡ 32 = wide ∙ length-take-le 32 (drop 32 (a ++ zs)) (omega (arith, length-drop 32 (a ++ zs), length-append a zs)) in
    let room : 32 ≤ length (a ++ zs) = omega (arith, length-append a zs) in
    let front : take 32 (a ++ zs) ≡ a = subst (λ (n : ℕ). take n (a ++ zs) ≡ a) long (take-append_seam a zs) in
    let none : drop 64 (a ++ zs) ≡ [] = drop_all 64 (a ++ zs) (omega (arith, length-append a zs)) in
    let left : take 64 whole ≡ a ++ b = before 64 (omega (arith)) room ∙ ap (λ (l : List ℕ). l ++ b) front in
    let right : drop 64 whole ≡ [] = behind 64 (omega (arith)) room other ∙ none in
    sym (take-append-drop 64 whole)
    ∙ (ap (λ (l : List ℕ). l ++ drop 64 whole) left
    ∙ (ap (λ (l : List ℕ). (a ++ b) ++ l) right
    ∙ (append-nil (a ++ b)
    ∙ (ap (λ (l : List ℕ). l ++ b) one ∙ ap (λ (l : List ℕ). first ++ l) two))))

-- Locks of keys one after the other, and the marks of program keys.
use Rattle.std.proofs.Common.{◌≡◌, ◌≢◌, ◌<◌, ◌+◌, ℕ, zero, suc, List, [], ◌∷◌, ◌++◌, length, map, take, replicate, Bool, true, false, ◌||◌, refl, sym, ap, ◌∙◌, append_assoc, arith}
use Rattle.std.specs.Prelude.{nat_eq}
use Rattle.std.specs.List.{enumerate_from, slice_index_or, slice_set}
use Rattle.std.proofs.Math.Bool.{or-false, or-true}
use Rattle.std.proofs.lemmas.Bool.Decides.{nat_tests}
use Rattle.std.proofs.lemmas.List.{take_more, length-take, length-append, get_or-set_same, get_or-set_other}
use Rattle.std.proofs.lemmas.List.Folds.{list_any_more}
use Rattle.message_codec.specs.declared.message.Instruction.{Instruction}
use Rattle.message_codec.specs.Roles.{is_program}
use Rattle.spec_base.proofs.Lists.{map_numbered}

-- one more
pub numbered_more : {X Y : Type 0} (f : ℕ × X → Y) (n i : ℕ) (xs : List X) (d : X) (before old new : List Y) (y : Y) → i < length xs → y ≡ f (n + i, slice_index_or xs i d)
    → old ≡ before ++ map f (enumerate_from n (take i xs)) → new ≡ old ++ y ∷ [] → new ≡ before ++ map f (enumerate_from n (take (i + 1) xs))
numbered_more f n i xs d before old new y lt e so_far added =
    let long : length (take i xs) ≡ i = rw length-take (omega arith) in
    let more : map f (enumerate_from n (take (i + 1) xs)) ≡ map f (enumerate_from n (take i xs)) ++ f (n + i, slice_index_or xs i d) ∷ [] =
    ap (λ l. map f (enumerate_from n l)) (take_more xs i d lt) ∙ map_numbered f n (n + i) (take i xs) (slice_index_or xs i d ∷ []) (omega arith) in
    added ∙ rw (so_far, e, more) (append_assoc before _ _)

-- three lists in a row
numbered_three : {X Y : Type 0} (f : ℕ × X → Y) (a b c : List X) (i j : ℕ) (none xs ys zs : List Y) → none ≡ [] → i ≡ length a → j ≡ i + length b
    → xs ≡ none ++ map f (enumerate_from 0 a) → ys ≡ xs ++ map f (enumerate_from i b) → zs ≡ ys ++ map f (enumerate_from j c) → zs ≡ map f (enumerate_from 0 (a ++ b ++ c))
numbered_three f a b c i j none xs ys zs empty first second e g h =
    let one : none ++ map f (enumerate_from 0 a) ≡ map f (enumerate_from 0 a) = rw empty refl in
    let two : map f (enumerate_from 0 (a ++ b)) ≡ map f (enumerate_from 0 a) ++ map f (enumerate_from i b) = map_numbered f 0 i a b (omega arith) in
    let three : map f (enumerate_from 0 (a ++ b ++ c)) ≡ map f (enumerate_from 0 (a ++ b)) ++ map f (enumerate_from j c) = map_numbered f 0 j (a ++ b) c (omega (arith, length-append a b)) in
    cc

-- and each as it was taken from where it stands
pub numbered_parts : {X Y : Type 0} (f : ℕ × X → Y) (a b c a' b' c' : List X) (i j : ℕ) (none xs ys zs : List Y) → a ≡ a' → b ≡ b' → c ≡ c' → none ≡ [] → i ≡ length a → j ≡ i + length b
    → xs ≡ none ++ map f (enumerate_from 0 a) → ys ≡ xs ++ map f (enumerate_from i b) → zs ≡ ys ++ map f (enumerate_from j c) → zs ≡ map f (enumerate_from 0 (a' ++ b' ++ c'))
numbered_parts f a b c a' b' c' i j none xs ys zs keys writable readonly empty first second e g h =
    let all : a ++ b ++ c ≡ a' ++ b' ++ c' = rw (keys, writable, readonly) refl in
    numbered_three f a b c i j none xs ys zs empty first second e g h ∙ ap (λ l. map f (enumerate_from 0 l)) all

-- nothing is marked at first
pub none_marked : (n i : ℕ) → slice_index_or (replicate n false) i false ≡ false
none_marked zero i = refl
none_marked (suc n) zero = refl
none_marked (suc n) (suc i) = none_marked n i

-- one program more is marked
pub one_marked : (marks : List Bool) (instructions : List Instruction) (k : ℕ) (x : Instruction) (place i : ℕ)
    → k < length instructions → x ≡ slice_index_or instructions k x → place ≡ x.program → place < length marks
    → slice_index_or marks i false ≡ is_program (take k instructions) i → slice_index_or (slice_set marks place true) i false ≡ is_program (take (k + 1) instructions) i
one_marked marks instructions k x place i lt e same_place fits so_far =
    let more : is_program (take (k + 1) instructions) i ≡ (is_program (take k instructions) i || nat_eq x.program i) =
    list_any_more (λ instruction. nat_eq instruction.program i) instructions k x lt ∙ ap (λ (y : Instruction). is_program (take k instructions) i || nat_eq y.program i) (sym e) in
    by_case (nat_eq x.program i) refl ∙ ap (λ b. b || nat_eq x.program i) so_far ∙ sym more
  where
    by_case : (b : Bool) → nat_eq x.program i ≡ b → slice_index_or (slice_set marks place true) i false ≡ (slice_index_or marks i false || nat_eq x.program i)
    by_case true same =
        let at : place ≡ i = grind (arith, nat_tests) in
        rw (same, ← at, get_or-set_same marks place true false fits) (sym (or-true (slice_index_or marks place false)))
    by_case false other =
        let apart : i ≢ place = λ e. absurd (grind (arith, nat_tests)) in
        rw (other, get_or-set_other marks place i true false apart) (sym (or-false (slice_index_or marks i false)))

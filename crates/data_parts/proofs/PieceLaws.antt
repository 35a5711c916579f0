-- Pieces of which one stands apart, and leaves a blank one of as many bytes in its place.
use Rattle.std.proofs.Common.{◌≡◌, ℕ, zero, suc, ◌+◌, ◌-◌, ◌<◌, ◌≤◌, Bool, true, List, [], ◌∷◌, ◌++◌, length, get_or, set, take, drop, min, ◌≢◌, ◌⊎◌, refl, ap, sym, ◌∙◌, subst, inl, inr, rules, arith, length-append, length-drop}
use Rattle.std.specs.List.{flat_map}
use Rattle.std.proofs.lemmas.List.{places, same_lists, take-append-drop, take-take, length-take, length-replicate, get_or-set_same, get_or-set_other, set-get_or, set_past, length-set}
use Rattle.std.proofs.lemmas.Bool.{cases_lt, cases_Bool}
use Rattle.data_parts.specs.declared.piece.Piece.{Piece}
use Rattle.data_parts.specs.declared.piece.Backing.{Backing}
use Rattle.spec_base.specs.Bytes.{with_bytes}
use Rattle.data_parts.specs.Parts.{piece_bytes, bytes_in, tests_in, before, blank_of, is_blank, AreInOrder, AreLentBy, StayLent, StaysShared}
use Rattle.data_parts.proofs.PartLaws.{order_set, lent_set, start_at, item_start, before_all, before_more, bytes_at, bytes_set, tests_kept, bytes_kept, write_there, read_step}

-- of two items that are set in one place, the second stands there
pub set_twice : {A : Type 0} (xs : List A) (i : ℕ) (x y : A) → set (set xs i x) i y ≡ set xs i y
set_twice [] i x y = refl
set_twice (z ∷ zs) zero x y = refl
set_twice (z ∷ zs) (suc i) x y = ap (λ (l : List _). z ∷ l) (set_twice zs i x y)

-- as many bytes stand before each piece, where one gets another backing of the same length
front_size : (pieces : List Piece) (i k : ℕ) (d y : Piece) → i < length pieces
    → length (piece_bytes y) ≡ length (piece_bytes (get_or pieces i d))
    → length (flat_map piece_bytes (take k (set pieces i y))) ≡ length (flat_map piece_bytes (take k pieces))
front_size [] i k d y h size = absurd (omega arith)
front_size (x ∷ xs) i zero d y h size = refl
front_size (x ∷ xs) zero (suc k) d y h size =
    let rest : List ℕ = flat_map piece_bytes (take k xs) in
    length-append (piece_bytes y) rest ∙ ap (λ n. n + length rest) size ∙ sym (length-append (piece_bytes x) rest)
front_size (x ∷ xs) (suc i) (suc k) d y h size =
    length-append (piece_bytes x) (flat_map piece_bytes (take k (set xs i y)))
    ∙ ap (λ n. length (piece_bytes x) + n) (front_size xs i k d y (omega arith) size)
    ∙ sym (length-append (piece_bytes x) (flat_map piece_bytes (take k xs)))

before_size : (pieces : List Piece) (i k : ℕ) (d y : Piece) → i < length pieces → length (piece_bytes y) ≡ length (piece_bytes (get_or pieces i d)) → before (set pieces i y) k ≡ before pieces k
unfolding bytes_in
before_size pieces i k d y h size = front_size pieces i k d y h size

-- a blank piece has as many bytes as the one in whose place it stands
blank_size : (pieces : List Piece) (place : ℕ) (piece : Piece) → place < length pieces → length (piece_bytes (blank_of piece)) ≡ length (piece_bytes (get_or (set pieces place piece) place piece))
blank_size pieces place piece h =
    length-replicate (length (piece_bytes piece)) 0 ∙ ap (λ (p : Piece). length (piece_bytes p)) (sym (get_or-set_same pieces place piece piece h))

-- the list with the blank piece, made of the one with the piece
blank_is : (list : List Piece) (place : ℕ) (piece : Piece) → set list place (blank_of piece) ≡ list → list ≡ set (set list place piece) place (blank_of piece)
blank_is list place piece blank = sym blank ∙ sym (set_twice list place piece (blank_of piece))

pub like_order : (list : List Piece) (place : ℕ) (piece : Piece) → set list place (blank_of piece) ≡ list → AreInOrder (set list place piece) → AreInOrder list
like_order list place piece blank order =
    elim (cases_lt place (length list)) [
      | inl h ↦ subst AreInOrder (sym (blank_is list place piece blank))
          (order_set (set list place piece) place piece (blank_of piece) order (rw length-set h)
          (ap (λ (p : Piece). p.start) (sym (get_or-set_same list place piece piece h)))
          (blank_size list place piece h))
      | inr h ↦ subst AreInOrder (set_past list place piece h) order
    ]

pub like_before : (list : List Piece) (place k : ℕ) (piece : Piece) → set list place (blank_of piece) ≡ list → before list k ≡ before (set list place piece) k
like_before list place k piece blank =
    elim (cases_lt place (length list)) [
      | inl h ↦ ap (λ (l : List Piece). before l k) (blank_is list place piece blank)
          ∙ before_size (set list place piece) place k piece (blank_of piece) (rw length-set h)
          (blank_size list place piece h)
      | inr h ↦ ap (λ (l : List Piece). before l k) (sym (set_past list place piece h))
    ]

pub like_length : (list : List Piece) (place : ℕ) (piece : Piece) → set list place (blank_of piece) ≡ list → length (bytes_in list) ≡ length (bytes_in (set list place piece))
like_length list place piece blank =
    let n : ℕ = length list in
    let same : length (set list place piece) ≡ n = length-set list place piece in
    sym (before_all list n (omega arith)) ∙ like_before list place n piece blank ∙ before_all (set list place piece) n (omega arith)

-- a piece that is not blank is not the one that stands apart
pub in_list : (list : List Piece) (place i : ℕ) (piece x : Piece) → set list place (blank_of piece) ≡ list
    → i < length list → x ≡ get_or list i x → is_blank x.backing ≢ true → x ≡ get_or (set list place piece) i x
in_list list place i piece x blank h is full =
    let other : i ≢ place = λ same. full
    (ap (λ (p : Piece). is_blank p.backing)
    (is ∙ ap (λ (l : List Piece). get_or l i x) (sym blank)
    ∙ ap (λ (n : ℕ). get_or (set list place (blank_of piece)) n x) same
    ∙ get_or-set_same list place (blank_of piece) x (subst (λ (n : ℕ). n < length list) same h))) in
    is ∙ sym (get_or-set_other list place i piece x other)

-- the piece that stands apart is one of the pieces
pub apart_is : (list : List Piece) (place : ℕ) (piece : Piece) → place < length list → piece ≡ get_or (set list place piece) place piece
apart_is list place piece h = sym (get_or-set_same list place piece piece h)

-- what stays, where the piece that stands apart changes
pub apart_order : (list : List Piece) (place : ℕ) (piece y : Piece) → AreInOrder (set list place piece)
    → y.start ≡ piece.start → length (piece_bytes y) ≡ length (piece_bytes piece)
    → AreInOrder (set list place y)
apart_order list place piece y order start size =
    elim (cases_lt place (length list)) [
      | inl h ↦ let same : get_or (set list place piece) place piece ≡ piece = get_or-set_same list place piece piece h in
          subst AreInOrder (set_twice list place piece y)
          (order_set (set list place piece) place piece y order (rw length-set h)
          (start ∙ ap (λ (p : Piece). p.start) (sym same))
          (size ∙ ap (λ (p : Piece). length (piece_bytes p)) (sym same)))
      | inr h ↦ subst AreInOrder (set_past list place piece h ∙ sym (set_past list place y h)) order
    ]

pub apart_tests : (test : Backing → Bool) (list : List Piece) (place : ℕ) (piece y : Piece)
    → length (piece_bytes y) ≡ length (piece_bytes piece) → test y.backing ≡ test piece.backing
    → tests_in test (set list place y) ≡ tests_in test (set list place piece)
apart_tests test list place piece y size answer =
    elim (cases_lt place (length list)) [
      | inl h ↦ let same : get_or (set list place piece) place piece ≡ piece = get_or-set_same list place piece piece h in
          ap (tests_in test) (sym (set_twice list place piece y))
          ∙ tests_kept test (set list place piece) place piece y (rw length-set h)
          (size ∙ ap (λ (p : Piece). length (piece_bytes p)) (sym same))
          (answer ∙ ap (λ (p : Piece). test p.backing) (sym same))
      | inr h ↦ ap (tests_in test) (set_past list place y h ∙ sym (set_past list place piece h))
    ]

pub apart_bytes : (list : List Piece) (place : ℕ) (piece y : Piece) → piece_bytes y ≡ piece_bytes piece → bytes_in (set list place y) ≡ bytes_in (set list place piece)
apart_bytes list place piece y kept =
    elim (cases_lt place (length list)) [
      | inl h ↦ let same : get_or (set list place piece) place piece ≡ piece = get_or-set_same list place piece piece h in
          ap bytes_in (sym (set_twice list place piece y)) ∙ bytes_kept (set list place piece) place piece y (rw length-set h) (kept ∙ ap piece_bytes (sym same))
      | inr h ↦ ap bytes_in (set_past list place y h ∙ sym (set_past list place piece h))
    ]

pub apart_lent : (list : List Piece) (place : ℕ) (piece y : Piece) → y.start ≡ piece.start → StaysShared piece.backing y.backing → StayLent (set list place piece) (set list place y)
apart_lent list place piece y start stays lent all =
    elim (cases_lt place (length list)) [
      | inl h ↦ let same : get_or (set list place piece) place piece ≡ piece = get_or-set_same list place piece piece h in
          subst (AreLentBy lent) (set_twice list place piece y)
          (lent_set (set list place piece) place piece y (rw length-set h)
          (start ∙ ap (λ (p : Piece). p.start) (sym same))
          (subst (λ (p : Piece). StaysShared p.backing y.backing) (sym same) stays) lent all)
      | inr h ↦ subst (AreLentBy lent) (set_past list place piece h ∙ sym (set_past list place y h)) all
    ]

-- a write into the piece that stands apart is one into the list
pub apart_write : (list : List Piece) (place at : ℕ) (piece y : Piece) (bytes : List ℕ) → place < length list
    → AreInOrder (set list place piece) → piece.start ≤ at
    → at - piece.start + length bytes ≤ length (piece_bytes piece)
    → piece_bytes y ≡ with_bytes (piece_bytes piece) (at - piece.start) bytes
    → bytes_in (set list place y) ≡ with_bytes (bytes_in (set list place piece)) at bytes
apart_write list place at piece y bytes h order first inside becomes =
    let all : List Piece = set list place piece in
    let some : place < length all = rw length-set h in
    let same : get_or all place piece ≡ piece = get_or-set_same list place piece piece h in
    let start : (get_or all place piece).start ≡ before all place = start_at all place piece order some in
    let begins : (get_or all place piece).start ≡ piece.start = ap (λ (p : Piece). p.start) same in
    ap bytes_in (sym (set_twice list place piece y))
    ∙ write_there all place at piece y bytes order some (omega arith)
    (subst (λ (p : Piece). at - p.start + length bytes ≤ length (piece_bytes p)) (sym same) inside)
    (subst (λ (p : Piece). piece_bytes y ≡ with_bytes (piece_bytes p) (at - p.start) bytes) (sym same)
    becomes)

-- no piece has more bytes than all have
pub piece_bound : (pieces : List Piece) (i : ℕ) (x : Piece) → i < length pieces → x ≡ get_or pieces i x → length (piece_bytes x) ≤ length (bytes_in pieces)
piece_bound pieces i x h is =
    let size : length (piece_bytes x) ≡ length (piece_bytes (get_or pieces i x)) = ap (λ (p : Piece). length (piece_bytes p)) is in
    let all = ap length (bytes_at pieces i x h) in
    let parts = length-append (bytes_in (take i pieces)) (piece_bytes (get_or pieces i x) ++ bytes_in (drop (i + 1) pieces)) in
    let more = length-append (piece_bytes (get_or pieces i x)) (bytes_in (drop (i + 1) pieces)) in
    omega arith

-- what lies within a piece lies within the list
pub piece_within : (pieces : List Piece) (i at N : ℕ) (x : Piece) → AreInOrder pieces → i < length pieces
    → x ≡ get_or pieces i x → x.start ≤ at → at - x.start + N ≤ length (piece_bytes x)
    → at + N ≤ length (bytes_in pieces)
piece_within pieces i at N x order h is first inside =
    let start : x.start ≡ before pieces i = item_start pieces i x order h is in
    let size : length (piece_bytes x) ≡ length (piece_bytes (get_or pieces i x)) = ap (λ (p : Piece). length (piece_bytes p)) is in
    let all = ap length (bytes_at pieces i x h) in
    let parts = length-append (bytes_in (take i pieces)) (piece_bytes (get_or pieces i x) ++ bytes_in (drop (i + 1) pieces)) in
    let more = length-append (piece_bytes (get_or pieces i x)) (bytes_in (drop (i + 1) pieces)) in
    omega arith

-- what lies before a place of two lists that begin alike
front_same : (xs ys zs : List ℕ) (at n : ℕ) → n ≤ length xs - at → take n (drop at (xs ++ ys)) ≡ take n (drop at (xs ++ zs))
front_same xs ys zs at n h = same_lists _ _ (search (rules, places)) (λ k d below. grind (arith, places))

-- what lies behind a place of two lists that end alike
back_same : (xs ys zs rest : List ℕ) (at len n : ℕ) → length ys ≡ length zs
    → (n < len → length xs + length ys ≤ at + n)
    → drop n (take len (drop at (xs ++ (ys ++ rest)))) ≡ drop n (take len (drop at (xs ++ (zs ++ rest))))
back_same xs ys zs rest at len n same past = same_lists _ _ (search (rules, places))
    (λ k d below. let h : length xs + length ys ≤ at + n = past
    (omega (arith, length-append {A = ℕ}, length-drop {A = ℕ}, length-take {A = ℕ})) in grind (arith, places))

-- a range that was read with the blank piece, and then the piece read over it
pub read_over : (list : List Piece) (place at from done count : ℕ) (x : Piece) (into : List ℕ)
    → set list place (blank_of x) ≡ list → AreInOrder (set list place x) → place < length list
    → at + length into ≤ length (bytes_in (set list place x)) → from + count ≤ length (piece_bytes x)
    → done + count ≤ length into → (0 < count → x.start + from ≡ at + done)
    → done ≡ min (length into) (x.start - at)
    → done + count ≡ min (length into) (x.start + length (piece_bytes x) - at)
    → into ≡ take (length into) (drop at (bytes_in list))
    → take done into ++ (take count (drop from (piece_bytes x)) ++ drop count (drop done into))
    ≡ take (length into) (drop at (bytes_in (set list place x)))
read_over list place at from done count x into blank order h within inside range same begin end was =
    let all : List Piece = set list place x in
    let some : place < length all = rw length-set h in
    let is : get_or all place x ≡ x = get_or-set_same list place x x h in
    let front : List ℕ = bytes_in (take place all) in
    let rest : List ℕ = bytes_in (drop (place + 1) all) in
    let empty : List ℕ = piece_bytes (blank_of x) in
    let whole : bytes_in all ≡ front ++ (piece_bytes x ++ rest) = bytes_at all place x some ∙ ap (λ (p : Piece). front ++ (piece_bytes p ++ rest)) is in
    let holed : bytes_in list ≡ front ++ (empty ++ rest) = ap bytes_in (blank_is list place x blank) ∙ bytes_set all place (blank_of x) some in
    let start : (get_or all place x).start ≡ before all place = start_at all place x order some in
    let begins : (get_or all place x).start ≡ x.start = ap (λ (p : Piece). p.start) is in
    let next : before all (place + 1) ≡ before all place + length (piece_bytes (get_or all place x)) = before_more all place x some in
    let ends : length (piece_bytes (get_or all place x)) ≡ length (piece_bytes x) = ap (λ (p : Piece). length (piece_bytes p)) is in
    let len : ℕ = length into in
    let d : ℕ = min len (before all place - at) in
    let e : ℕ = min len (before all (place + 1) - at) in
    let size : length (piece_bytes x) ≡ length empty = sym (length-replicate (length (piece_bytes x)) 0) in
    let head : take d into ≡ take d (drop at (bytes_in all)) =
    ap (λ (l : List ℕ). take d l) was ∙ take-take d len (drop at (bytes_in list)) (omega arith)
    ∙ ap (λ (l : List ℕ). take d (drop at l)) holed
    ∙ front_same front (empty ++ rest) (piece_bytes x ++ rest) at d (omega arith)
    ∙ ap (λ (l : List ℕ). take d (drop at l)) (sym whole) in
    let tail : drop e into ≡ drop e (take len (drop at (bytes_in all))) =
    ap (λ (l : List ℕ). drop e l) was ∙ ap (λ (l : List ℕ). drop e (take len (drop at l))) holed
    ∙ back_same front empty (piece_bytes x) rest at len e (sym size) (λ more. omega arith)
    ∙ ap (λ (l : List ℕ). drop e (take len (drop at l))) (sym whole) in
    let before_it : into ≡ take d (drop at (bytes_in all)) ++ drop d into = sym (take-append-drop d into) ∙ ap (λ (l : List ℕ). l ++ drop d into) head in
    read_step all place at from done count x into into order some (sym is) within refl inside range same begin
    end before_it ∙ ap (λ (l : List ℕ). take e (drop at (bytes_in all)) ++ l) tail
    ∙ ap (λ (l : List ℕ). l ++ drop e (take len (drop at (bytes_in all))))
    (sym (take-take e len (drop at (bytes_in all)) (omega arith)))
    ∙ take-append-drop e (take len (drop at (bytes_in all)))

-- two items that are set in two places may be set in either order
set_swap : {A : Type 0} (xs : List A) (i j : ℕ) (x y : A) → i ≢ j → set (set xs i x) j y ≡ set (set xs j y) i x
set_swap [] i j x y other = refl
set_swap (z ∷ zs) zero zero x y other = absurd (other refl)
set_swap (z ∷ zs) zero (suc j) x y other = refl
set_swap (z ∷ zs) (suc i) zero x y other = refl
set_swap (z ∷ zs) (suc i) (suc j) x y other = ap (λ (l : List _). z ∷ l) (set_swap zs i j x y (λ same. other (ap suc same)))

-- a piece that is not blank does not stand where the one does that stands apart
is_other : (list : List Piece) (place i : ℕ) (piece x : Piece) → set list place (blank_of piece) ≡ list → i < length list → x ≡ get_or list i x → is_blank x.backing ≢ true → i ≢ place
is_other list place i piece x blank h is full = λ same. full
    (ap (λ (p : Piece). is_blank p.backing)
    (is ∙ ap (λ (l : List Piece). get_or l i x) (sym blank)
    ∙ ap (λ (n : ℕ). get_or (set list place (blank_of piece)) n x) same
    ∙ get_or-set_same list place (blank_of piece) x (subst (λ (n : ℕ). n < length list) same h)))

-- a blank piece that comes for itself changes nothing
same_list : (list : List Piece) (i : ℕ) (x y : Piece) → x ≡ get_or list i x → y ≡ x → set list i y ≡ list
same_list list i x y is kept = ap (λ (p : Piece). set list i p) (kept ∙ is) ∙ set-get_or list i x

-- the blank piece still stands apart, where another piece changes
pub near_kept : (list : List Piece) (place i : ℕ) (piece x y : Piece) → set list place (blank_of piece) ≡ list
    → i < length list → x ≡ get_or list i x → (is_blank x.backing ≡ true → y ≡ x)
    → set (set list i y) place (blank_of piece) ≡ set list i y
near_kept list place i piece x y blank h is kept =
    elim (cases_Bool (is_blank x.backing)) [
      | inl empty ↦ let same : set list i y ≡ list = same_list list i x y is (kept empty) in
          ap (λ (l : List Piece). set l place (blank_of piece)) same ∙ blank ∙ sym same
      | inr full ↦ set_swap list i place y (blank_of piece) (is_other list place i piece x blank h is (λ empty. absurd (cc))) ∙ ap (λ (l : List Piece). set l i y) blank
    ]

-- where a piece changes that does not stand apart, one of all pieces does; a blank one stays
abbrev pub Lands : List Piece → ℕ → ℕ → Piece → Piece → Piece → Type 0
Lands list place i piece x y =
    ((is_blank x.backing ≡ true) × (set (set list i y) place piece ≡ set list place piece))
    ⊎ ((set (set list i y) place piece ≡ set (set list place piece) i y)
    × (x ≡ get_or (set list place piece) i x))

pub near_lands : (list : List Piece) (place i : ℕ) (piece x y : Piece) → set list place (blank_of piece) ≡ list
    → i < length list → x ≡ get_or list i x → (is_blank x.backing ≡ true → y ≡ x) → Lands list place i piece x y
near_lands list place i piece x y blank h is kept =
    elim (cases_Bool (is_blank x.backing)) [
      | inl empty ↦ inl (empty, ap (λ (l : List Piece). set l place piece) (same_list list i x y is (kept empty)))
      | inr full ↦ let other : is_blank x.backing ≢ true = λ empty. absurd (cc) in
          inr (set_swap list i place y piece (is_other list place i piece x blank h is other), in_list list place i piece x blank h is other)
    ]

-- what stays, where such a piece changes
pub lands_order : (list : List Piece) (place i : ℕ) (piece x y : Piece) → Lands list place i piece x y
    → i < length list → AreInOrder (set list place piece) → y.start ≡ x.start
    → length (piece_bytes y) ≡ length (piece_bytes x) → AreInOrder (set (set list i y) place piece)
lands_order list place i piece x y lands h order start size =
    elim lands [
      | inl kept ↦ subst AreInOrder (sym kept.1) order
      | inr is ↦ subst AreInOrder (sym is.0)
          (order_set (set list place piece) i x y order (rw length-set h)
          (start ∙ ap (λ (p : Piece). p.start) is.1) (size ∙ ap (λ (p : Piece). length (piece_bytes p)) is.1))
    ]

pub lands_tests : (test : Backing → Bool) (list : List Piece) (place i : ℕ) (piece x y : Piece)
    → Lands list place i piece x y → i < length list → length (piece_bytes y) ≡ length (piece_bytes x)
    → test y.backing ≡ test x.backing
    → tests_in test (set (set list i y) place piece) ≡ tests_in test (set list place piece)
lands_tests test list place i piece x y lands h size answer =
    elim lands [
      | inl kept ↦ ap (tests_in test) kept.1
      | inr is ↦ ap (tests_in test) is.0
          ∙ tests_kept test (set list place piece) i x y (rw length-set h)
          (size ∙ ap (λ (p : Piece). length (piece_bytes p)) is.1)
          (answer ∙ ap (λ (p : Piece). test p.backing) is.1)
    ]

pub lands_bytes : (list : List Piece) (place i : ℕ) (piece x y : Piece) → Lands list place i piece x y
    → i < length list → piece_bytes y ≡ piece_bytes x
    → bytes_in (set (set list i y) place piece) ≡ bytes_in (set list place piece)
lands_bytes list place i piece x y lands h same =
    elim lands [
      | inl kept ↦ ap bytes_in kept.1
      | inr is ↦ ap bytes_in is.0 ∙ bytes_kept (set list place piece) i x y (rw length-set h) (same ∙ ap piece_bytes is.1)
    ]

pub lands_lent : (list : List Piece) (place i : ℕ) (piece x y : Piece) → Lands list place i piece x y
    → i < length list → y.start ≡ x.start → StaysShared x.backing y.backing
    → StayLent (set list place piece) (set (set list i y) place piece)
lands_lent list place i piece x y lands h start stays lent all =
    elim lands [
      | inl kept ↦ subst (AreLentBy lent) (sym kept.1) all
      | inr is ↦ subst (AreLentBy lent) (sym is.0)
          (lent_set (set list place piece) i x y (rw length-set h) (start ∙ ap (λ (p : Piece). p.start) is.1)
          (subst (λ (p : Piece). StaysShared p.backing y.backing) is.1 stays) lent all)
    ]

-- a write into such a piece is one into the list
pub lands_write : (list : List Piece) (place i at : ℕ) (piece x y : Piece) (bytes : List ℕ)
    → Lands list place i piece x y → i < length list → is_blank x.backing ≢ true
    → AreInOrder (set list place piece) → x.start ≤ at → at - x.start + length bytes ≤ length (piece_bytes x)
    → piece_bytes y ≡ with_bytes (piece_bytes x) (at - x.start) bytes
    → bytes_in (set (set list i y) place piece) ≡ with_bytes (bytes_in (set list place piece)) at bytes
lands_write list place i at piece x y bytes lands h full order first inside becomes =
    let all : List Piece = set list place piece in
    let some : i < length all = rw length-set h in
    elim lands [
      | inl kept ↦ absurd (full kept.0)
      | inr is ↦
          let start : (get_or all i x).start ≡ before all i = start_at all i x order some in
          let begins : x.start ≡ (get_or all i x).start = ap (λ (p : Piece). p.start) is.1 in
          ap bytes_in is.0 ∙ write_there all i at x y bytes order some (omega arith)
          (subst (λ (p : Piece). at - p.start + length bytes ≤ length (piece_bytes p)) is.1 inside)
          (subst (λ (p : Piece). piece_bytes y ≡ with_bytes (piece_bytes p) (at - p.start) bytes) is.1
          becomes)
    ]

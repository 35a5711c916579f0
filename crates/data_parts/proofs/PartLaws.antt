-- Lists of bytes in pieces.
use Rattle.std.proofs.Common.{◌≡◌, ℕ, zero, suc, ◌+◌, ◌-◌, ◌<◌, ◌≤◌, Bool, true, false, List, [], ◌∷◌, ◌++◌, length, map, get_or, set, take, drop, replicate, min, Some, None, Option, slice_get, refl, ap, sym, ◌∙◌, subst, inl, inr, leb, leb-true, leb-false, rules, arith, ◌==◌, append_assoc, add-one, add-zero, length-append, length-drop}
use Rattle.std.specs.List.{All, flat_map, find}
use Rattle.std.specs.Option.{option_or}
use Rattle.std.specs.Arc.{arc_value}
use Rattle.std.specs.declared.sync.Arc.{Arc}
use Rattle.std.specs.declared.alloc.Global.{Global}
use Rattle.std.proofs.lemmas.List.Elements.{All-nil, All-get_or, All-set, All-push}
use Rattle.std.proofs.lemmas.Bool.Decides.{nat_tests}
use Rattle.std.proofs.lemmas.List.Folds.{find-append}
use Rattle.std.specs.List.Sorted.{IsNonDecreasingBy, IsPartitionPoint}
use Rattle.std.proofs.lemmas.List.{places, same_lists, take-append-drop, drop_more, drop-set, take-set, take_more, take_all, drop_all, take-take, length-take, length-take-le, length-replicate, append-nil, replicate-append-replicate, get_or-set_same, length-set, drop-drop, take_at, drop_at, get_or-append-add, get_or_append_left, get_or-replicate}
use Rattle.std.proofs.Math.Seq.{take-add}
use Rattle.std.proofs.lemmas.List.Concat.{flat_map-append}
use Rattle.std.proofs.lemmas.Option.{slice_get-get_or}
use Rattle.std.proofs.lemmas.Bool.{cases_lt, cases_Bool}
use Rattle.sol_base.specs.declared.account.Account.{Account}
use Rattle.data_parts.specs.declared.parts.Part.{Part}
use Rattle.data_parts.specs.declared.parts.Part.TheVariants.{Bytes, Lent, Zeros}
use Rattle.data_parts.specs.declared.piece.Piece.{Piece}
use Rattle.data_parts.specs.declared.piece.Backing.{Backing}
use Rattle.data_parts.specs.declared.piece.Backing.TheVariants.{Own, Shared, Blank}
use Rattle.spec_base.specs.Bytes.{with_bytes}
use Rattle.data_parts.specs.Parts.{Content, part_bytes, bytes_of, lent_by, lent_from, IsLentAt, IsLentBy, AreLentBy, StayLent, StaysShared, backing_bytes, piece_bytes, bytes_in, tests_in, for_each_byte, before, starts_from, is_own, is_prepared, AreInOrder, ArePrepared, StayPrepared, DataStandAt}

-- two contents of equal fields are one
pub same_content : (b b' : List ℕ) (p p' : List Bool) (lent : List (ℕ × Account)) → b ≡ b' → p ≡ p'
    → (let c : Content = record { bytes = b; prepared = p; lent = lent } in c)
    ≡ record { bytes = b'; prepared = p'; lent = lent }
same_content b b' p p' lent eb ep = rw (eb, ep) refl

-- a list in pieces, parted at one of them
flat_map_at : {X A : Type 0} (f : X → List A) (xs : List X) (i : ℕ) (d : X) → i < length xs → flat_map f xs ≡ flat_map f (take i xs) ++ (f (get_or xs i d) ++ flat_map f (drop (i + 1) xs))
flat_map_at f xs i d h =
    ap (flat_map f) (sym (take-append-drop i xs)) ∙ flat_map-append f (take i xs) (drop i xs) ∙ ap (λ ys. flat_map f (take i xs) ++ flat_map f ys) (drop_more xs i d h)

-- a list in pieces, with another piece in the place of one of them
flat_map_set : {X A : Type 0} (f : X → List A) (xs : List X) (i : ℕ) (y : X) → i < length xs → flat_map f (set xs i y) ≡ flat_map f (take i xs) ++ (f y ++ flat_map f (drop (i + 1) xs))
flat_map_set f xs i y h =
    ap (flat_map f) (sym (take-append-drop i (set xs i y)))
    ∙ flat_map-append f (take i (set xs i y)) (drop i (set xs i y))
    ∙ ap (λ ys. flat_map f ys ++ flat_map f (drop i (set xs i y))) (take-set xs i y)
    ∙ ap (λ ys. flat_map f (take i xs) ++ flat_map f ys) (drop-set xs i y h)

-- one piece more stands before the next
flat_map_more : {X A : Type 0} (f : X → List A) (xs : List X) (i : ℕ) (d : X) → i < length xs → length (flat_map f (take (i + 1) xs)) ≡ length (flat_map f (take i xs)) + length (f (get_or xs i d))
flat_map_more f xs i d h =
    ap (λ ys. length (flat_map f ys)) (take_more xs i d h)
    ∙ ap length (flat_map-append f (take i xs) (get_or xs i d ∷ []))
    ∙ length-append (flat_map f (take i xs)) (f (get_or xs i d) ++ [])
    ∙ ap (λ ys. length (flat_map f (take i xs)) + length ys) (append-nil (f (get_or xs i d)))

-- what lies within a piece lies so in the list
take_within : {A : Type 0} (xs ys zs : List A) (from count : ℕ) → from + count ≤ length ys → take count (drop (length xs + from) (xs ++ (ys ++ zs))) ≡ take count (drop from ys)
take_within xs ys zs from count h = same_lists _ _ (search (rules, places)) (λ k d below. grind (arith, places))

-- a write within a piece is one within the list
pub with_within : (xs ys zs bytes : List ℕ) (from : ℕ) → from + length bytes ≤ length ys → xs ++ (with_bytes ys from bytes ++ zs) ≡ with_bytes (xs ++ (ys ++ zs)) (length xs + from) bytes
with_within xs ys zs bytes from h = same_lists _ _ (search (rules, places)) (λ k d below. grind (arith, places))

-- two writes side by side are one
pub with_more : (list bytes more : List ℕ) (at : ℕ) → at + length bytes + length more ≤ length list
    → with_bytes (with_bytes list at bytes) (at + length bytes) more ≡ with_bytes list at (bytes ++ more)
with_more list bytes more at h = same_lists _ _ (search (rules, places)) (λ k d below. grind (arith, places))

-- two writes are one where the second is in front of the first
with_less : (list bytes more : List ℕ) (at : ℕ) → at + length more + length bytes ≤ length list → with_bytes (with_bytes list (at + length more) bytes) at more ≡ with_bytes list at (more ++ bytes)
with_less list bytes more at h = same_lists _ _ (search (rules, places)) (λ k d below. grind (arith, places))

-- what stands behind a write
drop_with : (list bytes : List ℕ) (at k : ℕ) → at + length bytes ≤ k → at + length bytes ≤ length list → drop k (with_bytes list at bytes) ≡ drop k list
drop_with list bytes at k past h = same_lists _ _ (search (rules, places)) (λ i d below. grind (arith, places))

-- what stands before it
take_with : (list bytes : List ℕ) (at k n : ℕ) → k + n ≤ at → at + length bytes ≤ length list → take n (drop k (with_bytes list at bytes)) ≡ take n (drop k list)
take_with list bytes at k n before_it h = same_lists _ _ (search (rules, places)) (λ i d below. grind (arith, places))

-- two ranges side by side are one
range_more : (list : List ℕ) (from done count : ℕ) → take done (drop from list) ++ take count (drop (from + done) list) ≡ take (done + count) (drop from list)
range_more list from done count =
    ap (λ l. take done (drop from list) ++ take count l) (sym (drop-drop done from list)) ∙ sym (take-add done count (drop from list))

pub range_length : (list : List ℕ) (from n : ℕ) → from + n ≤ length list → length (take n (drop from list)) ≡ n
range_length list from n h = length-take-le n (drop from list) (omega (arith, length-drop {A = ℕ}))

-- a range is moved to lower places one chunk on
pub move_more : (list now : List ℕ) (to from done count : ℕ) → to ≤ from → from + done + count ≤ length list
    → now ≡ with_bytes list to (take done (drop from list))
    → with_bytes now (to + done) (take count (drop (from + done) now))
    ≡ with_bytes list to (take (done + count) (drop from list))
move_more list now to from done count lower within is =
    let moved : List ℕ = take done (drop from list) in
    let size : length moved ≡ done = range_length list from done (omega arith) in
    let more : drop (from + done) now ≡ drop (from + done) list = ap (λ l. drop (from + done) l) is ∙ drop_with list moved to (from + done) (omega (arith, size)) (omega (arith, size)) in
    let chunk : List ℕ = take count (drop (from + done) list) in
    let chunk_size : length chunk ≡ count = range_length list (from + done) count within in
    ap (λ l. with_bytes now (to + done) (take count l)) more ∙ ap (λ l. with_bytes l (to + done) chunk) is
    ∙ ap (λ n. with_bytes (with_bytes list to moved) (to + n) chunk) (sym size)
    ∙ with_more list moved chunk to (omega (arith, size, chunk_size))
    ∙ ap (λ l. with_bytes list to l) (range_more list from done count)

-- a range is moved to higher places one chunk on
pub move_less : (list now : List ℕ) (to from rest count done : ℕ) → from ≤ to
    → to + rest + count + done ≤ length list
    → now ≡ with_bytes list (to + rest + count) (take done (drop (from + rest + count) list))
    → with_bytes now (to + rest) (take count (drop (from + rest) now))
    ≡ with_bytes list (to + rest) (take (count + done) (drop (from + rest) list))
move_less list now to from rest count done higher within is =
    let moved : List ℕ = take done (drop (from + rest + count) list) in
    let size : length moved ≡ done = range_length list (from + rest + count) done (omega arith) in
    let chunk : List ℕ = take count (drop (from + rest) list) in
    let chunk_size : length chunk ≡ count = range_length list (from + rest) count (omega arith) in
    let same : take count (drop (from + rest) now) ≡ chunk = ap (λ l. take count (drop (from + rest) l)) is
    ∙ take_with list moved (to + rest + count) (from + rest) count (omega arith) (omega (arith, size)) in
    ap (λ l. with_bytes now (to + rest) l) same ∙ ap (λ l. with_bytes l (to + rest) chunk) is
    ∙ ap (λ n. with_bytes (with_bytes list (to + rest + n) moved) (to + rest) chunk) (sym chunk_size)
    ∙ with_less list moved chunk (to + rest) (omega (arith, size, chunk_size))
    ∙ ap (λ l. with_bytes list (to + rest) l) (range_more list (from + rest) count done)

-- a write of nothing changes nothing
pub with_none : (list : List ℕ) (at : ℕ) → with_bytes list at [] ≡ list
with_none list at = simp (append-nil, add-zero, take-append-drop)

-- a range is written one piece on
write_more : (whole xs ys zs bytes : List ℕ) (at from done count : ℕ) → from + count ≤ length ys
    → done + count ≤ length bytes → (0 < count → length xs + from ≡ at + done)
    → at + length bytes ≤ length whole → xs ++ (ys ++ zs) ≡ with_bytes whole at (take done bytes)
    → xs ++ (with_bytes ys from (take count (drop done bytes)) ++ zs)
    ≡ with_bytes whole at (take (done + count) bytes)
write_more whole xs ys zs bytes at from done zero inside range same within was =
    rw (with_none ys from) (rw add-zero was)
write_more whole xs ys zs bytes at from done (suc n) inside range same within was =
    let count : ℕ = suc n in
    let more : List ℕ = take (suc n) (drop done bytes) in
    let size : length more ≡ suc n = length-take-le (suc n) (drop done bytes) (omega (arith, length-drop {A = ℕ})) in
    let first : length (take done bytes) ≡ done = length-take-le done bytes (omega arith) in
    let place : length xs + from ≡ at + length (take done bytes) = omega arith in
    let one : xs ++ (with_bytes ys from more ++ zs) ≡ with_bytes (xs ++ (ys ++ zs)) (length xs + from) more = with_within xs ys zs more from (omega arith) in
    let two : with_bytes (xs ++ (ys ++ zs)) (length xs + from) more
    ≡ with_bytes (with_bytes whole at (take done bytes)) (at + length (take done bytes)) more = ap
    (λ p. with_bytes (xs ++ (ys ++ zs)) p more) place
    ∙ ap (λ l. with_bytes l (at + length (take done bytes)) more) was in
    let three : with_bytes (with_bytes whole at (take done bytes)) (at + length (take done bytes)) more
    ≡ with_bytes whole at (take done bytes ++ more) = with_more whole (take done bytes) more at
    (omega arith) in
    let four : take (done + suc n) bytes ≡ take done bytes ++ more = take-add done (suc n) bytes in
    one ∙ two ∙ three ∙ ap (λ l. with_bytes whole at l) (sym four)

-- a range is read one piece on
read_more : (whole xs ys zs into start : List ℕ) (at from done count : ℕ) → whole ≡ xs ++ (ys ++ zs)
    → from + count ≤ length ys → done + count ≤ length start → (0 < count → length xs + from ≡ at + done)
    → at + length start ≤ length whole → into ≡ take done (drop at whole) ++ drop done start
    → take done into ++ (take count (drop from ys) ++ drop count (drop done into))
    ≡ take (done + count) (drop at whole) ++ drop (done + count) start
read_more whole xs ys zs into start at from done zero is inside range same within was =
    rw add-zero (take-append-drop done into ∙ was)
read_more whole xs ys zs into start at from done (suc n) is inside range same within was =
    let all : List ℕ = drop at whole in
    let front : length (take done all) ≡ done = length-take-le done all (omega (arith, length-drop {A = ℕ})) in
    let place : at + done ≡ length xs + from = omega arith in
    let more : take (suc n) (drop from ys) ≡ take (suc n) (drop done all) =
    sym (take_within xs ys zs from (suc n) inside) ∙ ap (λ l. take (suc n) (drop (length xs + from) l)) (sym is)
    ∙ ap (λ p. take (suc n) (drop p whole)) (sym place)
    ∙ ap (λ l. take (suc n) l) (sym (drop-drop done at whole)) in
    let head : take done into ≡ take done all = ap (λ l. take done l) was ∙ take_at (take done all) (drop done start) done front in
    let tail : drop (suc n) (drop done into)
    ≡ drop (done + suc n) start = ap (λ l. drop (suc n) (drop done l)) was
    ∙ ap (λ l. drop (suc n) l) (drop_at (take done all) (drop done start) done front)
    ∙ drop-drop (suc n) done start in
    ap (λ l. l ++ (take (suc n) (drop from ys) ++ drop (suc n) (drop done into))) head
    ∙ ap (λ l. take done all ++ (l ++ drop (suc n) (drop done into))) more
    ∙ ap (λ l. take done all ++ (take (suc n) (drop done all) ++ l)) tail
    ∙ sym (append_assoc (take done all) (take (suc n) (drop done all)) (drop (done + suc n) start))
    ∙ ap (λ l. l ++ drop (done + suc n) start) (sym (take-add done (suc n) all))

-- the middle of three lists, where it says one thing
middle : {A : Type 0} (xs zs : List A) (x : A) (n i : ℕ) → i < n → slice_get (xs ++ (replicate n x ++ zs)) (length xs + i) ≡ Some x
middle xs zs x n i h =
    slice_get-get_or (xs ++ (replicate n x ++ zs)) (length xs + i) x
    (simp (length-append, length-replicate) (omega arith))
    ∙ ap Some (get_or-append-add xs (replicate n x ++ zs) i x
    ∙ get_or_append_left (replicate n x) zs x i (rw length-replicate h) ∙ get_or-replicate n i x x h)

-- what stays of a list, stays of a longer one
stay_after : (xs ys zs : List Bool) → StayPrepared ys zs → StayPrepared (xs ++ ys) (xs ++ zs)
stay_after [] ys zs stay = stay
stay_after (x ∷ xs) ys zs stay = λ place. elim place as
    (λ p. slice_get (x ∷ (xs ++ ys)) p ≡ Some true → slice_get (x ∷ (xs ++ zs)) p ≡ Some true)
    [ zero ↦ λ was. was | suc p ↦ stay_after xs ys zs stay p ]

-- a piece of which each place gets ready leaves what is ready so
stay_within : (x y : Bool) (n : ℕ) (zs : List Bool) → (x ≡ true → y ≡ true) → StayPrepared (replicate n x ++ zs) (replicate n y ++ zs)
stay_within x y zero zs gains = λ place was. was
stay_within x y (suc n) zs gains = λ place. elim place as
    (λ p. slice_get (x ∷ (replicate n x ++ zs)) p ≡ Some true
    → slice_get (y ∷ (replicate n y ++ zs)) p ≡ Some true)
    [ zero ↦ λ was. ap Some (gains (cc)) | suc p ↦ stay_within x y n zs gains p ]

-- the front of two lists
front : (xs ys : List Bool) (i : ℕ) → i < length xs → slice_get (xs ++ ys) i ≡ slice_get xs i
front xs ys i h = slice_get-get_or (xs ++ ys) i true (simp length-append (omega arith)) ∙ ap Some (get_or_append_left xs ys true i h) ∙ sym (slice_get-get_or xs i true h)

-- what is so of a middle, stays so before it and comes to be so in it
ready_more : (xs zs : List Bool) (x : Bool) (n at len : ℕ)
    → ArePrepared (xs ++ (replicate n x ++ zs)) at (min len (length xs - at))
    → ArePrepared (xs ++ (replicate n true ++ zs)) at (min len (length xs + n - at))
ready_more xs zs x n at len ready place below =
    let goal : Type 0 = slice_get (xs ++ (replicate n true ++ zs)) (at + place) ≡ Some true in
    let here : (length xs ≤ at + place)
    → goal = λ past. subst (λ (p : ℕ). slice_get (xs ++ (replicate n true ++ zs)) p ≡ Some true)
    (omega arith) (middle xs zs true n (at + place - length xs) (omega arith)) in
    let there : (at + place < length xs) → goal = λ h. front xs (replicate n true ++ zs) (at + place) h ∙ sym (front xs (replicate n x ++ zs) (at + place) h) ∙ ready place (omega arith) in
    elim (cases_lt (at + place) (length xs)) [ inl h ↦ there h | inr h ↦ here h ]

-- where the pieces before one end, it starts
start_from : (place : ℕ) (pieces : List Piece) (i : ℕ) (d : Piece)
    → map (λ (piece : Piece). piece.start) pieces ≡ starts_from place pieces → i < length pieces
    → (get_or pieces i d).start ≡ place + length (flat_map piece_bytes (take i pieces))
start_from place [] i d order h = absurd (omega arith)
start_from place (piece ∷ pieces) zero d order h = let same : piece.start ≡ place = (cc) in same ∙ sym (add-zero place)
start_from place (piece ∷ pieces) (suc i) d order h =
    let rest : (get_or pieces i d).start
    ≡ place + length (piece_bytes piece) + length (flat_map piece_bytes (take i pieces)) = start_from
    (place + length (piece_bytes piece)) pieces i d (cc) (omega arith) in
    rest ∙ omega (arith, length-append (piece_bytes piece) (flat_map piece_bytes (take i pieces)))

-- pieces stay in order, where one gets another backing of the same length
order_from : (place : ℕ) (pieces : List Piece) (i : ℕ) (d y : Piece) → i < length pieces
    → y.start ≡ (get_or pieces i d).start → length (piece_bytes y) ≡ length (piece_bytes (get_or pieces i d))
    → map (λ (piece : Piece). piece.start) pieces ≡ starts_from place pieces
    → map (λ (piece : Piece). piece.start) (set pieces i y) ≡ starts_from place (set pieces i y)
order_from place [] i d y h start size order = absurd (omega arith)
order_from place (piece ∷ pieces) zero d y h start size order =
    let first : y.start ≡ place = (cc) in
    let rest : map (λ (p : Piece). p.start) pieces
    ≡ starts_from (place + length (piece_bytes y)) pieces = subst
    (λ (n : ℕ). map (λ (p : Piece). p.start) pieces ≡ starts_from (place + n) pieces) (sym size) (cc) in
    cc
order_from place (piece ∷ pieces) (suc i) d y h start size order =
    let rest : map (λ (p : Piece). p.start) (set pieces i y)
    ≡ starts_from (place + length (piece_bytes piece)) (set pieces i y) = order_from
    (place + length (piece_bytes piece)) pieces i d y (omega arith) start size (cc) in
    cc

-- pieces stay in order, where one more follows the last
order_push_from : (place : ℕ) (pieces : List Piece) (y : Piece)
    → y.start ≡ place + length (flat_map piece_bytes pieces)
    → map (λ (piece : Piece). piece.start) pieces ≡ starts_from place pieces
    → map (λ (piece : Piece). piece.start) (pieces ++ y ∷ []) ≡ starts_from place (pieces ++ y ∷ [])
order_push_from place [] y start order = let same : y.start ≡ place = start ∙ add-zero place in cc
order_push_from place (piece ∷ pieces) y start order =
    let rest : map (λ (p : Piece). p.start) (pieces ++ y ∷ [])
    ≡ starts_from (place + length (piece_bytes piece)) (pieces ++ y ∷ []) = order_push_from
    (place + length (piece_bytes piece)) pieces y
    (start ∙ omega (arith, length-append (piece_bytes piece) (flat_map piece_bytes pieces))) (cc) in
    cc

-- as many bytes as answers to a test
tests_length_in : (test : Backing → Bool) (pieces : List Piece) → length (flat_map (for_each_byte test) pieces) ≡ length (flat_map piece_bytes pieces)
tests_length_in test [] = refl
tests_length_in test (piece ∷ pieces) =
    let rest : length (flat_map (for_each_byte test) pieces) ≡ length (flat_map piece_bytes pieces) = tests_length_in test pieces in
    simp (length-append, length-replicate) (omega arith)

pub start_at : (pieces : List Piece) (i : ℕ) (d : Piece) → AreInOrder pieces → i < length pieces → (get_or pieces i d).start ≡ before pieces i
unfolding bytes_in AreInOrder
start_at pieces i d order h = start_from 0 pieces i d order h ∙ omega arith

pub order_set : (pieces : List Piece) (i : ℕ) (d y : Piece) → AreInOrder pieces → i < length pieces
    → y.start ≡ (get_or pieces i d).start → length (piece_bytes y) ≡ length (piece_bytes (get_or pieces i d))
    → AreInOrder (set pieces i y)
unfolding AreInOrder
order_set pieces i d y order h start size = order_from 0 pieces i d y h start size order

pub order_push : (pieces : List Piece) (y : Piece) → AreInOrder pieces → y.start ≡ length (bytes_in pieces) → AreInOrder (pieces ++ y ∷ [])
unfolding bytes_in AreInOrder
order_push pieces y order start = order_push_from 0 pieces y (start ∙ omega arith) order

pub tests_length : (test : Backing → Bool) (pieces : List Piece) → length (tests_in test pieces) ≡ length (bytes_in pieces)
unfolding bytes_in tests_in
tests_length test pieces = tests_length_in test pieces

-- the bytes before the piece after one
pub before_more : (pieces : List Piece) (i : ℕ) (d : Piece) → i < length pieces → before pieces (i + 1) ≡ before pieces i + length (piece_bytes (get_or pieces i d))
unfolding bytes_in
before_more pieces i d h = flat_map_more piece_bytes pieces i d h

-- the bytes before the end
pub before_all : (pieces : List Piece) (i : ℕ) → length pieces ≤ i → before pieces i ≡ length (bytes_in pieces)
before_all pieces i h = ap (λ ps. length (bytes_in ps)) (take_all i pieces h)

-- the bytes, parted at a piece
pub bytes_at : (pieces : List Piece) (i : ℕ) (d : Piece) → i < length pieces → bytes_in pieces ≡ bytes_in (take i pieces) ++ (piece_bytes (get_or pieces i d) ++ bytes_in (drop (i + 1) pieces))
unfolding bytes_in
bytes_at pieces i d h = flat_map_at piece_bytes pieces i d h

pub bytes_set : (pieces : List Piece) (i : ℕ) (y : Piece) → i < length pieces → bytes_in (set pieces i y) ≡ bytes_in (take i pieces) ++ (piece_bytes y ++ bytes_in (drop (i + 1) pieces))
unfolding bytes_in
bytes_set pieces i y h = flat_map_set piece_bytes pieces i y h

-- a piece that was read from the list starts where those before it end
pub item_start : (pieces : List Piece) (i : ℕ) (x : Piece) → AreInOrder pieces → i < length pieces → x ≡ get_or pieces i x → x.start ≡ before pieces i
item_start pieces i x order h is = ap (λ (p : Piece). p.start) is ∙ start_at pieces i x order h

-- the next one starts where it ends
pub item_end : (pieces : List Piece) (i : ℕ) (x : Piece) → i < length pieces → x ≡ get_or pieces i x → before pieces (i + 1) ≡ before pieces i + length (piece_bytes x)
item_end pieces i x h is = before_more pieces i x h ∙ ap (λ (p : Piece). before pieces i + length (piece_bytes p)) (sym is)

-- the bytes, parted at it
item_bytes : (pieces : List Piece) (i : ℕ) (x : Piece) → i < length pieces → x ≡ get_or pieces i x → bytes_in pieces ≡ bytes_in (take i pieces) ++ (piece_bytes x ++ bytes_in (drop (i + 1) pieces))
item_bytes pieces i x h is = bytes_at pieces i x h ∙ ap (λ (p : Piece). bytes_in (take i pieces) ++ (piece_bytes p ++ bytes_in (drop (i + 1) pieces))) (sym is)

-- the answers to a test, parted at a piece
tests_at : (test : Backing → Bool) (pieces : List Piece) (i : ℕ) (d : Piece) → i < length pieces
    → tests_in test pieces ≡ tests_in test (take i pieces)
    ++ (for_each_byte test (get_or pieces i d) ++ tests_in test (drop (i + 1) pieces))
unfolding tests_in
tests_at test pieces i d h = flat_map_at (for_each_byte test) pieces i d h

tests_set : (test : Backing → Bool) (pieces : List Piece) (i : ℕ) (y : Piece) → i < length pieces
    → tests_in test (set pieces i y)
    ≡ tests_in test (take i pieces) ++ (for_each_byte test y ++ tests_in test (drop (i + 1) pieces))
unfolding tests_in
tests_set test pieces i y h = flat_map_set (for_each_byte test) pieces i y h

-- a write keeps the length
pub length_with : (list bytes : List ℕ) (at : ℕ) → at + length bytes ≤ length list → length (with_bytes list at bytes) ≡ length list
length_with list bytes at h = simp (length-append, length-take, length-drop) (omega arith)

-- the answers to a test stay, where a piece gets another backing that answers alike
pub tests_kept : (test : Backing → Bool) (pieces : List Piece) (i : ℕ) (d y : Piece) → i < length pieces
    → length (piece_bytes y) ≡ length (piece_bytes (get_or pieces i d))
    → test y.backing ≡ test (get_or pieces i d).backing → tests_in test (set pieces i y) ≡ tests_in test pieces
tests_kept test pieces i d y h size same =
    let piece : for_each_byte test y ≡ for_each_byte test (get_or pieces i d) = ap (λ n. replicate n (test y.backing)) size ∙ ap (λ b. replicate (length (piece_bytes (get_or pieces i d))) b) same in
    tests_set test pieces i y h ∙ ap (λ (l : List Bool). tests_in test (take i pieces) ++ (l ++ tests_in test (drop (i + 1) pieces))) piece ∙ sym (tests_at test pieces i d h)

-- the bytes stay, where a piece gets another backing of the same bytes
pub bytes_kept : (pieces : List Piece) (i : ℕ) (d y : Piece) → i < length pieces → piece_bytes y ≡ piece_bytes (get_or pieces i d) → bytes_in (set pieces i y) ≡ bytes_in pieces
bytes_kept pieces i d y h same =
    bytes_set pieces i y h ∙ ap (λ (l : List ℕ). bytes_in (take i pieces) ++ (l ++ bytes_in (drop (i + 1) pieces))) same ∙ sym (bytes_at pieces i d h)

-- a front of a list in pieces stays, where a piece gives way to one alike
front_kept : {X A : Type 0} (f : X → List A) (xs : List X) (i k : ℕ) (d y : X) → i < length xs → f y ≡ f (get_or xs i d) → flat_map f (take k (set xs i y)) ≡ flat_map f (take k xs)
front_kept f [] i k d y h same = absurd (omega arith)
front_kept f (x ∷ xs) i zero d y h same = refl
front_kept f (x ∷ xs) zero (suc k) d y h same = ap (λ (l : List _). l ++ flat_map f (take k xs)) same
front_kept f (x ∷ xs) (suc i) (suc k) d y h same = ap (λ (l : List _). f x ++ l) (front_kept f xs i k d y (omega arith) same)

-- the pieces stay where they are, where one gets another backing of the same bytes
pub starts_kept : (pieces : List Piece) (i k : ℕ) (d y : Piece) → i < length pieces → piece_bytes y ≡ piece_bytes (get_or pieces i d) → before (set pieces i y) k ≡ before pieces k
unfolding bytes_in
starts_kept pieces i k d y h same = ap length (front_kept piece_bytes pieces i k d y h same)

-- the next piece stays where it is
pub before_kept : (pieces : List Piece) (i : ℕ) (d y : Piece) → i < length pieces
    → length (piece_bytes y) ≡ length (piece_bytes (get_or pieces i d))
    → before (set pieces i y) (i + 1) ≡ before pieces (i + 1)
before_kept pieces i d y h size =
    before_more (set pieces i y) i d (rw length-set h)
    ∙ ap (λ (p : Piece). before (set pieces i y) i + length (piece_bytes p))
    (get_or-set_same pieces i y d h)
    ∙ ap (λ (ps : List Piece). length (bytes_in ps) + length (piece_bytes y)) (take-set pieces i y)
    ∙ ap (λ n. before pieces i + n) size ∙ sym (before_more pieces i d h)

-- a piece that a range meets passes the test that each place of the range passes
pub passes_there : (test : Backing → Bool) (pieces : List Piece) (i at len from done : ℕ) (d : Piece)
    → i < length pieces → ArePrepared (tests_in test pieces) at len → done < len
    → from < length (piece_bytes (get_or pieces i d)) → before pieces i + from ≡ at + done
    → test (get_or pieces i d).backing ≡ true
passes_there test pieces i at len from done d h ready below inside same =
    let first : List Bool = tests_in test (take i pieces) in
    let last : List Bool = tests_in test (drop (i + 1) pieces) in
    let size : length first ≡ before pieces i = tests_length test (take i pieces) in
    let here : slice_get (first ++ (for_each_byte test (get_or pieces i d) ++ last)) (length first + from)
    ≡ Some (test (get_or pieces i d).backing) = middle first last (test (get_or pieces i d).backing)
    (length (piece_bytes (get_or pieces i d))) from inside in
    let there : slice_get (first ++ (for_each_byte test (get_or pieces i d) ++ last)) (length first + from)
    ≡ Some true = ap (λ (p : ℕ). slice_get (first ++ (for_each_byte test (get_or pieces i d) ++ last)) p)
    (ap (λ n. n + from) size ∙ same)
    ∙ ap (λ (l : List Bool). slice_get l (at + done)) (sym (tests_at test pieces i d h))
    ∙ ready done below in
    cc

-- a piece passes the test that a place of it passes
pub passes_at : (test : Backing → Bool) (pieces : List Piece) (i at : ℕ) (x : Piece) → i < length pieces
    → x ≡ get_or pieces i x → before pieces i ≤ at → at < before pieces (i + 1)
    → slice_get (tests_in test pieces) at ≡ Some true → test x.backing ≡ true
passes_at test pieces i at x h is first last passes =
    let end : before pieces (i + 1) ≡ before pieces i + length (piece_bytes (get_or pieces i x)) = before_more pieces i x h in
    ap (λ (p : Piece). test p.backing) is ∙ passes_there test pieces i at 1 (at - before pieces i) 0 x h
    (λ place below. let same : at ≡ at + place = omega arith in subst (λ (n : ℕ). slice_get (tests_in test pieces) n ≡ Some true) same passes) (omega arith) (omega arith) (omega arith)

-- what is so of a range is so of a part of it
pub within_range : (answers : List Bool) (at len from count : ℕ) → from + count ≤ len → ArePrepared answers at len → ArePrepared answers (at + from) count
within_range answers at len from count inside all = λ place below. let same : at + (from + place) ≡ at + from + place = omega arith in
    subst (λ (n : ℕ). slice_get answers n ≡ Some true) same (all (from + place) (omega arith))

-- what passes a test stays so, where a piece gets another backing that passes it as well
pub stay_set : (test : Backing → Bool) (pieces : List Piece) (i : ℕ) (d y : Piece) → i < length pieces
    → length (piece_bytes y) ≡ length (piece_bytes (get_or pieces i d))
    → (test (get_or pieces i d).backing ≡ true → test y.backing ≡ true)
    → StayPrepared (tests_in test pieces) (tests_in test (set pieces i y))
stay_set test pieces i d y h size gains =
    let first : List Bool = tests_in test (take i pieces) in
    let last : List Bool = tests_in test (drop (i + 1) pieces) in
    let n : ℕ = length (piece_bytes (get_or pieces i d)) in
    let is : tests_in test pieces ≡ first ++ (for_each_byte test (get_or pieces i d) ++ last) = tests_at test pieces i d h in
    let comes : first ++ (replicate n (test y.backing) ++ last)
    ≡ tests_in test (set pieces i y) = ap (λ (m : ℕ). first ++ (replicate m (test y.backing) ++ last))
    (sym size) ∙ sym (tests_set test pieces i y h) in
    let stay : StayPrepared (first ++ (for_each_byte test (get_or pieces i d) ++ last))
    (first ++ (replicate n (test y.backing) ++ last)) = stay_after first
    (for_each_byte test (get_or pieces i d) ++ last) (replicate n (test y.backing) ++ last)
    (stay_within (test (get_or pieces i d).backing) (test y.backing) n last gains) in
    λ place was. ap (λ (l : List Bool). slice_get l place) (sym comes) ∙ stay place (ap (λ (l : List Bool). slice_get l place) (sym is) ∙ was)

-- a range passes a test one piece on, where that piece comes to pass it
pub ready_set : (test : Backing → Bool) (pieces : List Piece) (i at len : ℕ) (d y : Piece) → i < length pieces
    → length (piece_bytes y) ≡ length (piece_bytes (get_or pieces i d)) → test y.backing ≡ true
    → ArePrepared (tests_in test pieces) at (min len (before pieces i - at))
    → ArePrepared (tests_in test (set pieces i y)) at (min len (before pieces (i + 1) - at))
ready_set test pieces i at len d y h size passes ready place below =
    let first : List Bool = tests_in test (take i pieces) in
    let last : List Bool = tests_in test (drop (i + 1) pieces) in
    let n : ℕ = length (piece_bytes (get_or pieces i d)) in
    let starts : length first ≡ before pieces i = tests_length test (take i pieces) in
    let ends : before pieces (i + 1) ≡ before pieces i + n = before_more pieces i d h in
    let was : ArePrepared (first ++ (for_each_byte test (get_or pieces i d) ++ last)) at
    (min len (length first - at)) = λ p under. ap (λ (l : List Bool). slice_get l (at + p))
    (sym (tests_at test pieces i d h)) ∙ ready p (omega arith) in
    let comes : tests_in test (set pieces i y)
    ≡ first ++ (replicate n true ++ last) = tests_set test pieces i y h
    ∙ ap (λ (m : ℕ). first ++ (replicate m (test y.backing) ++ last)) size
    ∙ ap (λ (b : Bool). first ++ (replicate n b ++ last)) passes in
    ap (λ (l : List Bool). slice_get l (at + place)) comes ∙ ready_more first last (test (get_or pieces i d).backing) n at len was place (omega arith)

-- a range is written one piece on
pub write_step : (pieces : List Piece) (i at from done count : ℕ) (d y : Piece) (bytes : List ℕ)
    → AreInOrder pieces → i < length pieces → at + length bytes ≤ length (bytes_in pieces)
    → from + count ≤ length (piece_bytes (get_or pieces i d)) → done + count ≤ length bytes
    → (0 < count → (get_or pieces i d).start + from ≡ at + done)
    → done ≡ min (length bytes) ((get_or pieces i d).start - at)
    → done + count ≡ min (length bytes)
    ((get_or pieces i d).start + length (piece_bytes (get_or pieces i d)) - at)
    → piece_bytes y ≡ with_bytes (piece_bytes (get_or pieces i d)) from
    (take (done + count - done) (drop done bytes)) → (whole : List ℕ) → length whole ≡ length (bytes_in pieces)
    → bytes_in pieces ≡ with_bytes whole at (take (min (length bytes) (before pieces i - at)) bytes)
    → bytes_in (set pieces i y)
    ≡ with_bytes whole at (take (min (length bytes) (before pieces (i + 1) - at)) bytes)
write_step pieces i at from done count d y bytes order h within inside range same start end becomes whole size was =
    let place : (get_or pieces i d).start ≡ before pieces i = start_at pieces i d order h in
    let first : List ℕ = bytes_in (take i pieces) in
    let last : List ℕ = bytes_in (drop (i + 1) pieces) in
    let old : List ℕ = piece_bytes (get_or pieces i d) in
    let some : done + count - done ≡ count = omega arith in
    let is_done : min (length bytes) (before pieces i - at) ≡ done = ap (λ (p : ℕ). min (length bytes) (p - at)) (sym place) ∙ sym start in
    let comes : done + count ≡ min (length bytes) (before pieces (i + 1) - at) = end
    ∙ ap (λ (p : ℕ). min (length bytes) (p + length old - at)) place
    ∙ ap (λ (p : ℕ). min (length bytes) (p - at)) (sym (before_more pieces i d h)) in
    let before_it : first ++ (old ++ last) ≡ with_bytes whole at (take done bytes) = sym (bytes_at pieces i d h) ∙ was ∙ ap (λ (n : ℕ). with_bytes whole at (take n bytes)) is_done in
    let step : first ++ (with_bytes old from (take count (drop done bytes)) ++ last)
    ≡ with_bytes whole at (take (done + count) bytes) = write_more whole first old last bytes at from done
    count inside range (λ some_bytes. let e : (get_or pieces i d).start + from ≡ at + done = same some_bytes
    in omega arith) (omega arith) before_it in
    let piece : piece_bytes y ≡ with_bytes old from (take count (drop done bytes)) = becomes ∙ ap (λ (n : ℕ). with_bytes old from (take n (drop done bytes))) some in
    bytes_set pieces i y h ∙ ap (λ (l : List ℕ). first ++ (l ++ last)) piece ∙ step ∙ ap (λ (n : ℕ). with_bytes whole at (take n bytes)) comes

-- a range is read one piece on
pub read_step : (pieces : List Piece) (i at from done count : ℕ) (x : Piece) (into start : List ℕ)
    → AreInOrder pieces → i < length pieces → x ≡ get_or pieces i x
    → at + length start ≤ length (bytes_in pieces) → length into ≡ length start
    → from + count ≤ length (piece_bytes x) → done + count ≤ length into
    → (0 < count → x.start + from ≡ at + done) → done ≡ min (length into) (x.start - at)
    → done + count ≡ min (length into) (x.start + length (piece_bytes x) - at)
    → into ≡ take (min (length start) (before pieces i - at)) (drop at (bytes_in pieces))
    ++ drop (min (length start) (before pieces i - at)) start
    → take done into ++ (take count (drop from (piece_bytes x)) ++ drop count (drop done into))
    ≡ take (min (length start) (before pieces (i + 1) - at)) (drop at (bytes_in pieces))
    ++ drop (min (length start) (before pieces (i + 1) - at)) start
read_step pieces i at from done count x into start order h is within size inside range same begin end was =
    let place : x.start ≡ before pieces i = item_start pieces i x order h is in
    let next : before pieces (i + 1) ≡ before pieces i + length (piece_bytes x) = item_end pieces i x h is in
    let is_done : min (length start) (before pieces i - at) ≡ done = omega arith in
    let comes : done + count ≡ min (length start) (before pieces (i + 1) - at) = omega arith in
    let all : List ℕ = drop at (bytes_in pieces) in
    read_more (bytes_in pieces) (bytes_in (take i pieces)) (piece_bytes x) (bytes_in (drop (i + 1) pieces)) into
    start at from done count (item_bytes pieces i x h is) inside (omega arith)
    (λ some. let e : x.start + from ≡ at + done = same some in omega arith) within
    (was ∙ ap (λ (n : ℕ). take n all ++ drop n start) is_done)
    ∙ ap (λ (n : ℕ). take n all ++ drop n start) comes

-- a range is read where the pieces before one hold all of it
pub read_end : (all into start : List ℕ) (at past : ℕ) → at + length start ≤ past
    → into ≡ take (min (length start) (past - at)) (drop at all) ++ drop (min (length start) (past - at)) start
    → into ≡ take (length start) (drop at all)
read_end all into start at past h was =
    let end : min (length start) (past - at) ≡ length start = omega arith in
    was ∙ ap (λ (n : ℕ). take n (drop at all) ++ drop n start) end
    ∙ ap (λ (l : List ℕ). take (length start) (drop at all) ++ l)
    (drop_all (length start) start (omega arith)) ∙ append-nil (take (length start) (drop at all))

-- a range is written where the pieces before one hold all of it
pub write_end : (all now bytes : List ℕ) (at past : ℕ) → at + length bytes ≤ past → now ≡ with_bytes all at (take (min (length bytes) (past - at)) bytes) → now ≡ with_bytes all at bytes
write_end all now bytes at past h was =
    was ∙ ap (λ (l : List ℕ). with_bytes all at l) (take_all (min (length bytes) (past - at)) bytes (omega arith))

-- a range is ready where the pieces before one hold all of it
pub ready_end : (answers : List Bool) (at len past : ℕ) → at + len ≤ past → ArePrepared answers at (min len (past - at)) → ArePrepared answers at len
ready_end answers at len past h was place below = was place (omega arith)

-- more pieces hold no fewer bytes
before_rises : (pieces : List Piece) (i j : ℕ) → i ≤ j → before pieces i ≤ before pieces j
unfolding bytes_in
before_rises pieces i j h =
    let front : List Piece = take j pieces in
    let parts : length (flat_map piece_bytes front)
    ≡ length (flat_map piece_bytes (take i front)) + length (flat_map piece_bytes (drop i front)) = ap
    (λ (ps : List Piece). length (flat_map piece_bytes ps)) (sym (take-append-drop i front))
    ∙ ap length (flat_map-append piece_bytes (take i front) (drop i front))
    ∙ length-append (flat_map piece_bytes (take i front)) (flat_map piece_bytes (drop i front)) in
    let same : length (flat_map piece_bytes (take i front)) ≡ length (flat_map piece_bytes (take i pieces)) = ap (λ (ps : List Piece). length (flat_map piece_bytes ps)) (take-take i j pieces h) in
    omega arith

-- pieces in order rise
pub starts_rise : (pieces : List Piece) → AreInOrder pieces → IsNonDecreasingBy (λ (piece : Piece). piece.start) pieces
starts_rise pieces order i j d le lt =
    let one : (get_or pieces i d).start ≡ before pieces i = start_at pieces i d order (omega arith) in
    let two : (get_or pieces j d).start ≡ before pieces j = start_at pieces j d order lt in
    let rise : before pieces i ≤ before pieces j = before_rises pieces i j le in
    omega arith

-- the last piece that starts no later than a place holds it
pub record IsPlaceOf (pieces : List Piece) (place index : ℕ) : Type 0 where
  pub some : 1 ≤ index
  pub first : before pieces (index - 1) ≤ place
  pub last : place < before pieces (index - 1 + 1)

pub piece_of_place : (pieces : List Piece) (place index : ℕ) → AreInOrder pieces
    → place < length (bytes_in pieces) → index ≤ length pieces
    → IsPartitionPoint (λ (piece : Piece). leb piece.start place ≡ true)
    (λ (piece : Piece). leb piece.start place ≡ false) pieces index → IsPlaceOf pieces place index
unfolding bytes_in
piece_of_place [] place index order within bound point = absurd (omega arith)
piece_of_place (piece ∷ pieces) place zero order within bound point =
    let start : piece.start ≡ 0 = start_at (piece ∷ pieces) 0 piece order (omega arith) in
    let late : place < piece.start = leb-false piece.start place (point.1 0 piece (omega arith) (omega arith)) in
    absurd (omega arith)
piece_of_place (piece ∷ pieces) place (suc index) order within bound point =
    let all : List Piece = piece ∷ pieces in
    let start : (get_or all index piece).start ≡ before all index = start_at all index piece order (omega arith) in
    let early : (get_or all index piece).start ≤ place = leb-true (get_or all index piece).start place (point.0 index piece (omega arith) (omega arith)) in
    let next : place < before all (suc index) = elim (cases_lt (suc index) (length all)) [
      | inl h ↦ let begin : (get_or all (suc index) piece).start ≡ before all (suc index) = start_at all (suc index) piece order h in
          let late : place < (get_or all (suc index) piece).start = leb-false (get_or all (suc index) piece).start place (point.1 (suc index) piece (omega arith) h) in
          omega arith
      | inr h ↦ let end : before all (suc index) ≡ length (bytes_in all) = before_all all (suc index) h in omega arith
    ] in
    let same : index ≡ suc index - 1 = omega arith in
    record {
      some = omega arith;
      first = subst (λ (n : ℕ). before all n ≤ place) same (omega arith);
      last = subst (λ (n : ℕ). place < before all (n + 1)) same (rw add-one next);
    }

-- a byte of a piece in the list
pub get_there : (pieces : List Piece) (i at : ℕ) (x : Piece) → AreInOrder pieces → i < length pieces
    → x ≡ get_or pieces i x → before pieces i ≤ at → at < before pieces (i + 1)
    → get_or (piece_bytes x) (at - x.start) 0 ≡ get_or (bytes_in pieces) at 0
get_there pieces i at x order h is first last =
    let front : List ℕ = bytes_in (take i pieces) in
    let rest : List ℕ = bytes_in (drop (i + 1) pieces) in
    let start : x.start ≡ before pieces i = item_start pieces i x order h is in
    let next : before pieces (i + 1) ≡ before pieces i + length (piece_bytes x) = item_end pieces i x h is in
    let from : ℕ = at - x.start in
    let place : length front + from ≡ at = omega arith in
    sym (get_or_append_left (piece_bytes x) rest 0 from (omega arith))
    ∙ sym (get_or-append-add front (piece_bytes x ++ rest) from 0)
    ∙ ap (λ (l : List ℕ). get_or l (length front + from) 0) (sym (item_bytes pieces i x h is))
    ∙ ap (λ (n : ℕ). get_or (bytes_in pieces) n 0) place

-- a range of a piece in the list
pub read_there : (pieces : List Piece) (i at len : ℕ) (x : Piece) → AreInOrder pieces → i < length pieces
    → x ≡ get_or pieces i x → before pieces i ≤ at → at - x.start + len ≤ length (piece_bytes x)
    → take len (drop (at - x.start) (piece_bytes x)) ≡ take len (drop at (bytes_in pieces))
read_there pieces i at len x order h is first inside =
    let front : List ℕ = bytes_in (take i pieces) in
    let rest : List ℕ = bytes_in (drop (i + 1) pieces) in
    let start : x.start ≡ before pieces i = item_start pieces i x order h is in
    let from : ℕ = at - x.start in
    let place : length front + from ≡ at = omega arith in
    sym (take_within front (piece_bytes x) rest from len inside)
    ∙ ap (λ (l : List ℕ). take len (drop (length front + from) l)) (sym (item_bytes pieces i x h is))
    ∙ ap (λ (n : ℕ). take len (drop n (bytes_in pieces))) place

-- the data of an account that a piece lends stand where the piece starts
pub data_there : (pieces : List Piece) (i at : ℕ) (x : Piece) (account : Account) → AreInOrder pieces
    → i < length pieces → x ≡ get_or pieces i x → x.start ≡ at → account.bytes ≡ piece_bytes x
    → DataStandAt account (bytes_in pieces) at
data_there pieces i at x account order h is start same =
    let front : List ℕ = bytes_in (take i pieces) in
    let rest : List ℕ = bytes_in (drop (i + 1) pieces) in
    let first : x.start ≡ before pieces i = item_start pieces i x order h is in
    let size : length account.bytes ≡ length (piece_bytes x) = ap length same in
    let whole : length (bytes_in pieces)
    ≡ length front + (length (piece_bytes x) + length rest) = ap length (item_bytes pieces i x h is)
    ∙ length-append front (piece_bytes x ++ rest)
    ∙ ap (λ n. length front + n) (length-append (piece_bytes x) rest) in
    let there : take (length (piece_bytes x)) (drop (at - x.start) (piece_bytes x))
    ≡ take (length (piece_bytes x)) (drop at (bytes_in pieces)) = read_there pieces i at
    (length (piece_bytes x)) x order h is (omega arith) (omega arith) in
    let all : take (length (piece_bytes x)) (drop (at - x.start) (piece_bytes x))
    ≡ piece_bytes x = ap (λ n. take (length (piece_bytes x)) (drop n (piece_bytes x)))
    (let none : at - x.start ≡ 0 = omega arith in none)
    ∙ take_all (length (piece_bytes x)) (piece_bytes x) (omega arith) in
    (omega arith, ap (λ n. take n (drop at (bytes_in pieces))) size ∙ sym there ∙ all ∙ sym same)

-- a write within a piece is one within the list
pub write_there : (pieces : List Piece) (i at : ℕ) (d y : Piece) (bytes : List ℕ) → AreInOrder pieces
    → i < length pieces → before pieces i ≤ at
    → at - (get_or pieces i d).start + length bytes ≤ length (piece_bytes (get_or pieces i d))
    → piece_bytes y ≡ with_bytes (piece_bytes (get_or pieces i d)) (at - (get_or pieces i d).start) bytes
    → bytes_in (set pieces i y) ≡ with_bytes (bytes_in pieces) at bytes
write_there pieces i at d y bytes order h first inside becomes =
    let front : List ℕ = bytes_in (take i pieces) in
    let rest : List ℕ = bytes_in (drop (i + 1) pieces) in
    let piece : List ℕ = piece_bytes (get_or pieces i d) in
    let start : (get_or pieces i d).start ≡ before pieces i = start_at pieces i d order h in
    let from : ℕ = at - (get_or pieces i d).start in
    let place : length front + from ≡ at = omega arith in
    bytes_set pieces i y h ∙ ap (λ (l : List ℕ). front ++ (l ++ rest)) becomes
    ∙ with_within front piece rest bytes from inside
    ∙ ap (λ (l : List ℕ). with_bytes l (length front + from) bytes) (sym (bytes_at pieces i d h))
    ∙ ap (λ (n : ℕ). with_bytes (bytes_in pieces) n bytes) place

-- a backing that is prepared is the list's own
own_if_prepared : (backing : Backing) → is_prepared backing ≡ true → is_own backing ≡ true
own_if_prepared (Own bytes prepared) h = refl
own_if_prepared (Shared shared) h = (cc)
own_if_prepared (Blank count) h = (cc)

-- what is prepared is the list's own
own_in : (pieces : List Piece) → StayPrepared (flat_map (for_each_byte is_prepared) pieces) (flat_map (for_each_byte is_own) pieces)
own_in [] = λ place was. was
own_in (piece ∷ pieces) =
    let n : ℕ = length (piece_bytes piece) in
    let rest : List Bool = flat_map (for_each_byte is_prepared) pieces in
    λ place was. stay_after (replicate n (is_own piece.backing)) rest (flat_map (for_each_byte is_own) pieces)
    (own_in pieces) place (stay_within (is_prepared piece.backing) (is_own piece.backing) n rest
    (own_if_prepared piece.backing) place was)

pub prepared_is_own : (pieces : List Piece) → StayPrepared (tests_in is_prepared pieces) (tests_in is_own pieces)
unfolding tests_in
prepared_is_own pieces = own_in pieces

pub prepared_are_own : (pieces : List Piece) (prepared : List Bool) (at len : ℕ) → tests_in is_prepared pieces ≡ prepared → ArePrepared prepared at len → ArePrepared (tests_in is_own pieces) at len
prepared_are_own pieces prepared at len same are = λ place below. prepared_is_own pieces (at + place) (ap (λ (l : List Bool). slice_get l (at + place)) same ∙ are place below)

-- one item more at the end
flat_map_push : {X A : Type 0} (f : X → List A) (xs : List X) (x : X) → flat_map f (xs ++ x ∷ []) ≡ flat_map f xs ++ f x
flat_map_push f xs x = flat_map-append f xs (x ∷ []) ∙ ap (λ (l : List _). flat_map f xs ++ l) (append-nil (f x))

pub bytes_push : (pieces : List Piece) (y : Piece) → bytes_in (pieces ++ y ∷ []) ≡ bytes_in pieces ++ piece_bytes y
unfolding bytes_in
bytes_push pieces y = flat_map_push piece_bytes pieces y

pub parts_push : (parts : List Part) (part : Part) → bytes_of (parts ++ part ∷ []) ≡ bytes_of parts ++ part_bytes part
unfolding bytes_of
parts_push parts part = flat_map_push part_bytes parts part

-- no place is prepared, where one more piece is not
pub plain_push : (pieces : List Piece) (y : Piece)
    → tests_in is_prepared pieces ≡ replicate (length (bytes_in pieces)) false → is_prepared y.backing ≡ false
    → tests_in is_prepared (pieces ++ y ∷ []) ≡ replicate (length (bytes_in (pieces ++ y ∷ []))) false
unfolding tests_in
plain_push pieces y plain last =
    let piece : for_each_byte is_prepared y ≡ replicate (length (piece_bytes y)) false = ap (λ (b : Bool). replicate (length (piece_bytes y)) b) last in
    let size : length (bytes_in (pieces ++ y ∷ [])) ≡ length (bytes_in pieces) + length (piece_bytes y) = ap length (bytes_push pieces y) ∙ length-append (bytes_in pieces) (piece_bytes y) in
    flat_map_push (for_each_byte is_prepared) pieces y
    ∙ ap (λ (l : List Bool). l ++ for_each_byte is_prepared y) plain
    ∙ ap (λ (l : List Bool). replicate (length (bytes_in pieces)) false ++ l) piece
    ∙ replicate-append-replicate (length (bytes_in pieces)) (length (piece_bytes y)) false
    ∙ ap (λ (n : ℕ). replicate n false) (sym size)

-- a part that comes with others has no more bytes than all have
pub parts_bound : (parts rest : List Part) (part : Part) → length (bytes_of parts) + length (part_bytes part) ≤ length (bytes_of (parts ++ part ∷ rest))
unfolding bytes_of
parts_bound parts rest part = rw (flat_map-append part_bytes parts (part ∷ rest)) (simp length-append (omega arith))

-- no piece holds no bytes, in order
pub no_order : AreInOrder []
unfolding AreInOrder
no_order = refl

pub no_tests : (test : Backing → Bool) → tests_in test [] ≡ []
unfolding tests_in
no_tests test = refl

pub no_bytes : bytes_in [] ≡ []
unfolding bytes_in
no_bytes = refl

pub no_parts : bytes_of [] ≡ []
unfolding bytes_of
no_parts = refl

-- no piece has the data of an account
pub no_lent : (lent : List (ℕ × Account)) → AreLentBy lent []
unfolding AreLentBy
no_lent lent = All-nil (IsLentBy lent)

-- a piece that was read from the list has the data that were lent there
pub item_lent : (lent : List (ℕ × Account)) (pieces : List Piece) (i : ℕ) (x : Piece) → AreLentBy lent pieces → i < length pieces → x ≡ get_or pieces i x → IsLentBy lent x
unfolding AreLentBy
item_lent lent pieces i x all h is = subst (IsLentBy lent) (sym is) (All-get_or (IsLentBy lent) pieces i x h all)

-- what was lent still is, where a piece gets a backing that brings no account
pub lent_set : (pieces : List Piece) (i : ℕ) (d y : Piece) → i < length pieces
    → y.start ≡ (get_or pieces i d).start → StaysShared (get_or pieces i d).backing y.backing
    → StayLent pieces (set pieces i y)
unfolding AreLentBy
lent_set pieces i d y h start stays lent all =
    let was : IsLentBy lent (get_or pieces i d) = All-get_or (IsLentBy lent) pieces i d h all in
    let comes : IsLentBy lent y = λ shared is some.
    let same : (get_or pieces i d).backing ≡ y.backing = stays shared is ∙ sym is in
    let bytes : 0 < length (piece_bytes (get_or pieces i d)) = subst (λ (b : Backing). 0 < length (backing_bytes b)) (sym same) some in
    subst (λ (place : ℕ). IsLentAt lent place (arc_value shared)) (sym start) (was shared (stays shared is) bytes) in
    All-set (IsLentBy lent) pieces i y comes all

-- the first that is found in a list is the first in a longer one
find_kept : {X : Type 0} (test : X → Bool) (xs ys : List X) (x : X) → find test xs ≡ Some x → find test (xs ++ ys) ≡ Some x
find_kept test xs ys x found = find-append test xs ys ∙ ap (λ (o : Option _). option_or o (find test ys)) found

-- what is found in neither of two lists is not found in both together
find_none : {X : Type 0} (test : X → Bool) (xs ys : List X) → find test xs ≡ None → find test ys ≡ None → find test (xs ++ ys) ≡ None
find_none test xs ys none empty = find-append test xs ys ∙ ap (λ (o : Option _). option_or o (find test ys)) none ∙ empty

-- a part lends no account behind its end
none_by : (place at : ℕ) (part : Part) → place + length (part_bytes part) ≤ at → find (λ (item : ℕ × Account). item.0 == at) (lent_by place part) ≡ None
none_by place at (Bytes bytes) past = refl
none_by place at (Lent shared) past =
    let account : Account = arc_value shared in
    elim (cases_Bool (length account.bytes == 0)) [
      | inl empty ↦ rw empty refl
      | inr some ↦ let other : (place == at) ≡ false = grind (arith, nat_tests) in rw some (rw other refl)
    ]
none_by place at (Zeros count) past = refl

-- parts lend no account behind their end
none_from : (place at : ℕ) (parts : List Part) → place + length (flat_map part_bytes parts) ≤ at → find (λ (item : ℕ × Account). item.0 == at) (lent_from place parts) ≡ None
unfolding lent_from
none_from place at [] past = refl
none_from place at (part ∷ parts) past =
    let size = length-append (part_bytes part) (flat_map part_bytes parts) in
    find_none (λ (item : ℕ × Account). item.0 == at) (lent_by place part)
    (lent_from (place + length (part_bytes part)) parts) (none_by place at part (omega arith))
    (none_from (place + length (part_bytes part)) at parts (omega arith))

-- the accounts that parts lend, where one more follows the last
lent_more : (place : ℕ) (parts : List Part) (part : Part) → lent_from place (parts ++ part ∷ []) ≡ lent_from place parts ++ lent_by (place + length (flat_map part_bytes parts)) part
unfolding lent_from
lent_more place [] part = append-nil (lent_by place part) ∙ ap (λ (n : ℕ). lent_by n part) (sym (add-zero place))
lent_more place (first ∷ parts) part =
    let next : ℕ = place + length (part_bytes first) in
    let size : next + length (flat_map part_bytes parts)
    ≡ place + length (part_bytes first ++ flat_map part_bytes parts) = omega
    (arith, length-append (part_bytes first) (flat_map part_bytes parts)) in
    ap (λ (l : List _). lent_by place first ++ l)
    (lent_more next parts part ∙ ap (λ (n : ℕ). lent_from next parts ++ lent_by n part) size)
    ∙ sym (append_assoc (lent_by place first) (lent_from next parts)
    (lent_by (place + length (part_bytes first ++ flat_map part_bytes parts)) part))

-- the account that is lent last is found where it begins
lent_last : (lent : List (ℕ × Account)) (y : Piece) (part : Part) (shared : Arc Account Global)
    → find (λ (item : ℕ × Account). item.0 == y.start) lent ≡ None → part ≡ Lent shared
    → 0 < length (backing_bytes (Shared shared))
    → IsLentAt (lent ++ lent_by y.start part) y.start (arc_value shared)
lent_last lent y part shared none is some =
    let test : (ℕ × Account) → Bool = λ item. item.0 == y.start in
    let account : Account = arc_value shared in
    let full : (length account.bytes == 0) ≡ false = grind (arith, nat_tests) in
    let same : (y.start == y.start) ≡ true = grind (arith, nat_tests) in
    let one : find test (lent_by y.start (Lent shared)) ≡ Some (y.start, account) = rw full (rw same refl) in
    find-append test lent (lent_by y.start part) ∙ ap (λ (o : Option (ℕ × Account)). option_or o (find test (lent_by y.start part))) none ∙ ap (λ (p : Part). find test (lent_by y.start p)) is ∙ one

-- pieces have what parts lend, where one more of each follows the last
pub lent_push : (parts : List Part) (part : Part) (pieces : List Piece) (y : Piece)
    → AreLentBy (lent_from 0 parts) pieces → y.start ≡ length (bytes_of parts)
    → ((shared : Arc Account Global) → y.backing ≡ Shared shared → part ≡ Lent shared)
    → AreLentBy (lent_from 0 (parts ++ part ∷ [])) (pieces ++ y ∷ [])
unfolding AreLentBy bytes_of
lent_push parts part pieces y all start lends =
    let lent : List (ℕ × Account) = lent_from 0 parts in
    let more : List (ℕ × Account) = lent_by y.start part in
    let place : 0 + length (flat_map part_bytes parts) ≡ y.start = omega arith in
    let is : lent_from 0 (parts ++ part ∷ []) ≡ lent ++ more = lent_more 0 parts part ∙ ap (λ (n : ℕ). lent ++ lent_by n part) place in
    let front : All (IsLentBy (lent ++ more)) pieces = λ k d below shared same some. find_kept _ lent more _ (all k d below shared same some) in
    let last : IsLentBy (lent ++ more) y = λ shared same some. lent_last lent y part shared
    (none_from 0 y.start parts (omega arith)) (lends shared same)
    (subst (λ (b : Backing). 0 < length (backing_bytes b)) same some) in
    subst (λ (l : List (ℕ × Account)). All (IsLentBy l) (pieces ++ y ∷ [])) (sym is) (All-push (IsLentBy (lent ++ more)) pieces y front last)

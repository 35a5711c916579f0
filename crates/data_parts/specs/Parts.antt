-- Lists of bytes in parts, some of which are the data of shared accounts.
use Rattle.std.specs.Prelude.{◌≡◌, ℕ, ◌+◌, ◌-◌, ◌<◌, ◌≤◌, ◌==◌, if◌then◌else◌, true, false, nat_le, Bool, List, [], ◌∷◌, ◌++◌, length, map, min, take, drop, replicate, slice_get, Option, Some, None}
use Rattle.std.specs.List.{All, flat_map, find}
use Rattle.std.specs.Arc.{arc_value}
use Rattle.std.specs.declared.sync.Arc.{Arc}
use Rattle.std.specs.declared.alloc.Global.{Global}
use Rattle.spec_base.specs.Bytes.{with_bytes}
use Rattle.sol_base.specs.declared.account.Account.{Account}
use Rattle.data_parts.specs.declared.parts.Part.{Part}
use Rattle.data_parts.specs.declared.parts.Part.TheVariants.{Bytes, Lent, Zeros}
use Rattle.data_parts.specs.declared.piece.Backing.{Backing}
use Rattle.data_parts.specs.declared.piece.Backing.TheVariants.{Own, Shared, Blank}
use Rattle.data_parts.specs.declared.piece.Piece.{Piece}

-- the bytes of a part: its own, an account's data, or zeros
abbrev pub part_bytes : Part → List ℕ
part_bytes (Bytes bytes) = bytes
part_bytes (Lent shared) = let account : Account = arc_value shared in account.bytes
part_bytes (Zeros count) = replicate count 0

-- the bytes of all parts, one after another
unfoldable pub bytes_of : List Part → List ℕ
bytes_of parts = flat_map part_bytes parts

-- an account of which a part lends the data, if there are any, with the place where they begin
abbrev pub lent_by : ℕ → Part → List (ℕ × Account)
lent_by place (Bytes bytes) = []
lent_by place (Lent shared) =
    let account : Account = arc_value shared in
    if length account.bytes == 0 then [] else (place, account) ∷ []
lent_by place (Zeros count) = []

-- the accounts of which parts lend the data, where the first of the parts begins at a place
unfoldable pub lent_from : ℕ → List Part → List (ℕ × Account)
lent_from place [] = []
lent_from place (part ∷ parts) =
    lent_by place part ++ lent_from (place + length (part_bytes part)) parts

-- what a list of parts stands for: its bytes, for each place whether it is prepared, and the
-- accounts that it was made to lend, each with the place where its data began
pub record Content : Type 0 where
  pub bytes : List ℕ
  pub prepared : List Bool
  pub lent : List (ℕ × Account)

-- bytes of which no place is prepared, with the accounts that are lent
abbrev pub unprepared : List ℕ → List (ℕ × Account) → Content
unprepared list lent =
    record { bytes = list; prepared = replicate (length list) false; lent = lent }

-- the account is the one whose data were lent from a place on
abbrev pub IsLentAt : List (ℕ × Account) → ℕ → Account → Type 0
IsLentAt lent at account =
    find (λ (item : ℕ × Account). item.0 == at) lent ≡ Some (at, account)

-- the data of an account stand in a list from a place on
abbrev pub DataStandAt : Account → List ℕ → ℕ → Type 0
DataStandAt account list at =
    (at + length account.bytes ≤ length list)
    × (take (length account.bytes) (drop at list) ≡ account.bytes)

-- each place of a range is prepared
abbrev pub ArePrepared : List Bool → ℕ → ℕ → Type 0
ArePrepared prepared at len =
    (place : ℕ) → place < len → slice_get prepared (at + place) ≡ Some true

-- each place that was prepared still is
abbrev pub StayPrepared : List Bool → List Bool → Type 0
StayPrepared before after =
    (place : ℕ) → slice_get before place ≡ Some true → slice_get after place ≡ Some true

-- the bytes that stand behind a piece
abbrev pub backing_bytes : Backing → List ℕ
backing_bytes (Own bytes prepared) = bytes.items
backing_bytes (Shared shared) = let account : Account = arc_value shared in account.bytes
backing_bytes (Blank count) = replicate count 0

-- the bytes are the list's own
abbrev pub is_own : Backing → Bool
is_own (Own bytes prepared) = true
is_own (Shared shared) = false
is_own (Blank count) = false

-- the bytes are the list's own and prepared
abbrev pub is_prepared : Backing → Bool
is_prepared (Own bytes prepared) = prepared
is_prepared (Shared shared) = false
is_prepared (Blank count) = false

-- the bytes are zeros that stand nowhere
abbrev pub is_blank : Backing → Bool
is_blank (Own bytes prepared) = false
is_blank (Shared shared) = false
is_blank (Blank count) = true

-- an account that stands behind a backing stood there before
abbrev pub StaysShared : Backing → Backing → Type 0
StaysShared before after =
    (shared : Arc Account Global) → after ≡ Shared shared → before ≡ Shared shared

-- N bytes are those of a list from a place on
abbrev pub ArrayStandsIn : List ℕ → ℕ → ℕ → List ℕ → Type 0
ArrayStandsIn list from N found = (from + N ≤ length list) × (found ≡ take N (drop from list))

-- N bytes of a list from a place on, or none where there are fewer
abbrev pub array_at : List ℕ → ℕ → ℕ → Option (List ℕ)
array_at list at N = if nat_le (at + N) (length list) then Some (take N (drop at list)) else None

-- a backing has other bytes from a place on
abbrev pub HasPut : Backing → Backing → ℕ → List ℕ → Type 0
HasPut before after from put = backing_bytes after ≡ with_bytes (backing_bytes before) from put

-- the test that is to hold where pieces are made ready to be written
abbrev pub test_of : Bool → Backing → Bool
test_of true = is_prepared
test_of false = is_own

-- the bytes of a piece
abbrev pub piece_bytes : Piece → List ℕ
piece_bytes piece = backing_bytes piece.backing

-- N bytes are those of a piece from a place of the list on
abbrev pub ArrayStandsAt : Piece → ℕ → ℕ → List ℕ → Type 0
ArrayStandsAt piece at N found =
    (piece.start ≤ at) × ArrayStandsIn (piece_bytes piece) (at - piece.start) N found

-- what stands in the place of a piece that is kept apart
abbrev pub blank_of : Piece → Piece
blank_of piece = record { start = piece.start; backing = Blank (length (piece_bytes piece)) }

-- for each byte of a piece, what a test says of the piece
abbrev pub for_each_byte : (Backing → Bool) → Piece → List Bool
for_each_byte test piece = replicate (length (piece_bytes piece)) (test piece.backing)

-- the bytes of all pieces
unfoldable pub bytes_in : List Piece → List ℕ
bytes_in pieces = flat_map piece_bytes pieces

-- for each byte of all pieces, what a test says of its piece
unfoldable pub tests_in : (Backing → Bool) → List Piece → List Bool
tests_in test pieces = flat_map (for_each_byte test) pieces

-- how many bytes stand before a piece
abbrev pub before : List Piece → ℕ → ℕ
before pieces index = length (bytes_in (take index pieces))

-- where pieces start that follow one another from a place on
abbrev pub starts_from : ℕ → List Piece → List ℕ
starts_from place [] = []
starts_from place (piece ∷ pieces) = place ∷ starts_from (place + length (piece_bytes piece)) pieces

-- each piece starts where those before it end
unfoldable pub AreInOrder : List Piece → Type 0
AreInOrder pieces = map (λ (piece : Piece). piece.start) pieces ≡ starts_from 0 pieces

-- an account that stands behind a piece with bytes is the one that was lent where the piece starts
abbrev pub IsLentBy : List (ℕ × Account) → Piece → Type 0
IsLentBy lent piece =
    (shared : Arc Account Global) → piece.backing ≡ Shared shared
    → 0 < length (piece_bytes piece) → IsLentAt lent piece.start (arc_value shared)

-- each account that stands behind a piece with bytes was lent there
unfoldable pub AreLentBy : List (ℕ × Account) → List Piece → Type 0
AreLentBy lent pieces = All (IsLentBy lent) pieces

-- the accounts that stand behind pieces still are those that were lent there
abbrev pub StayLent : List Piece → List Piece → Type 0
StayLent before after =
    (lent : List (ℕ × Account)) → AreLentBy lent before → AreLentBy lent after

-- a list has the bytes of a range that stand before a place, and is else as it was
abbrev pub IsWrittenUpTo : List ℕ → List ℕ → ℕ → List ℕ → ℕ → Type 0
IsWrittenUpTo was now at bytes place =
    now ≡ with_bytes was at (take (min (length bytes) (place - at)) bytes)

-- the places of a range that stand before a place are prepared
abbrev pub ArePreparedUpTo : List Bool → ℕ → ℕ → ℕ → Type 0
ArePreparedUpTo prepared at len place = ArePrepared prepared at (min len (place - at))

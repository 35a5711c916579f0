-- Lists of bytes that grow.
use Rattle.std.proofs.Common.{◌≡◌, ◌≤◌, ◌+◌, ◌-◌, ◌^◌, ℕ, Bool, List, [], ◌∷◌, ◌++◌, length, take, drop, replicate, sym, ap, ◌∙◌, append_assoc, length-append, arith}
use Rattle.std.specs.Int.{from_bool}
use Rattle.std.specs.List.{enumerate_from, flat_map}
use Rattle.std.proofs.lemmas.List.{append-nil, drop-drop, drop-take, take-take}
use Rattle.std.proofs.Math.Seq.{take-add}
use Rattle.sol_base.specs.declared.account.Account.{Account}
use Rattle.sol_base.specs.declared.key.Key.{Key}
use Rattle.sol_base.specs.declared.lock.Meta.{Meta}
use Rattle.data_parts.specs.declared.parts.Part.{Part}
use Rattle.data_parts.specs.declared.parts.Part.TheVariants.{Bytes}
use Rattle.spec_base.specs.Bytes.{with_bytes}
use Rattle.data_parts.specs.Parts.{bytes_of, lent_by, lent_from, part_bytes}
use Rattle.data_parts.proofs.PartLaws.{parts_push, no_parts}
use Rattle.abi_input.specs.Region.{entry_of, first_entry, first_size, input_of, not_listed_before, number_bytes, over_entry, padding, room_of, state_bytes}

-- a draft with nothing
pub empty_draft : (done : List Part) (last : List ℕ) → done ≡ [] → last ≡ [] → bytes_of done ++ last ≡ []
empty_draft done last no_done no_last = ap (λ (l : List Part). bytes_of l ++ last) no_done ∙ ap (λ (l : List ℕ). l ++ last) no_parts ∙ no_last

pub empty_lent : (done : List Part) → done ≡ [] → lent_from 0 done ≡ []
unfolding lent_from
empty_lent done no_done = ap (λ (l : List Part). lent_from 0 l) no_done

-- what parts lend, one more
lent_push : (place : ℕ) (parts : List Part) (part : Part) → lent_from place (parts ++ part ∷ []) ≡ lent_from place parts ++ lent_by (place + length (bytes_of parts)) part
unfolding lent_from bytes_of
lent_push place [] part =
    let here : place ≡ place + 0 = omega arith in
    append-nil (lent_by place part) ∙ ap (λ n. lent_by n part) here
lent_push place (first ∷ parts) part =
    let own : List (ℕ × Account) = lent_by place first in
    let next : ℕ = place + length (part_bytes first) in
    let rest : List ℕ = flat_map part_bytes parts in
    let behind : next + length rest ≡ place + length (part_bytes first ++ rest) = omega (arith, length-append (part_bytes first) rest) in
    ap (λ (l : List (ℕ × Account)). own ++ l) (lent_push next parts part) ∙ sym (append_assoc own (lent_from next parts) (lent_by (next + length rest) part))
    ∙ ap (λ n. (own ++ lent_from next parts) ++ lent_by n part) behind

-- the last bytes become a part
pub closed : (done new : List Part) (last : List ℕ) → new ≡ done ++ Bytes last ∷ [] → bytes_of new ≡ bytes_of done ++ last
closed done new last e = ap bytes_of e ∙ parts_push done (Bytes last)

pub closed_lent : (done new : List Part) (last : List ℕ) → new ≡ done ++ Bytes last ∷ [] → lent_from 0 new ≡ lent_from 0 done
closed_lent done new last e = ap (λ (l : List Part). lent_from 0 l) e ∙ lent_push 0 done (Bytes last) ∙ append-nil (lent_from 0 done)

-- a part behind all bytes
pub added : (done closed new : List Part) (last none : List ℕ) (part : Part) (bytes : List ℕ)
    → bytes_of closed ≡ bytes_of done ++ last → none ≡ []
    → bytes_of (closed ++ part ∷ []) ≡ bytes_of closed ++ bytes → new ≡ closed ++ part ∷ []
    → bytes_of new ++ none ≡ (bytes_of done ++ last) ++ bytes
added done closed new last none part bytes whole empty pushed e =
    ap (λ (l : List ℕ). bytes_of new ++ l) empty ∙ append-nil (bytes_of new) ∙ ap bytes_of e ∙ pushed ∙ ap (λ (l : List ℕ). l ++ bytes) whole

pub added_lent : (done closed new : List Part) (last : List ℕ) (part : Part)
    → bytes_of closed ≡ bytes_of done ++ last → lent_from 0 closed ≡ lent_from 0 done
    → new ≡ closed ++ part ∷ []
    → lent_from 0 new ≡ lent_from 0 done ++ lent_by (length (bytes_of done ++ last)) part
added_lent done closed new last part whole same e =
    let behind : 0 + length (bytes_of closed) ≡ length (bytes_of done ++ last) = omega (arith, ap length whole) in
    ap (λ (l : List Part). lent_from 0 l) e ∙ lent_push 0 closed part ∙ ap (λ (l : List (ℕ × Account)). l ++ lent_by (0 + length (bytes_of closed)) part) same
    ∙ ap (λ n. lent_from 0 done ++ lent_by n part) behind

-- one piece, and then others
pub then_more : {A : Type 0} (d d1 d2 a b : List A) → d1 ≡ d ++ a → d2 ≡ d1 ++ b → d2 ≡ d ++ (a ++ b)
then_more {A = A} d d1 d2 a b one two = two ∙ ap (λ (l : List A). l ++ b) one ∙ append_assoc d a b

-- the state of an account, piece by piece
pub state_added : (room len : ℕ) (v a : Account) (d d1 d2 d3 d4 d5 lamports_bytes len_bytes : List ℕ) → v ≡ a
    → len ≡ length v.bytes → lamports_bytes ≡ number_bytes v.lamports → len_bytes ≡ number_bytes len
    → d1 ≡ d ++ v.owner.0 → d2 ≡ d1 ++ lamports_bytes → d3 ≡ d2 ++ len_bytes → d4 ≡ d3 ++ a.bytes → d5 ≡ d4 ++ replicate (room - len) 0 → d5 ≡ d ++ state_bytes room a
unfolding state_bytes
state_added room len v a d d1 d2 d3 d4 d5 lb nb same is_len is_lamports is_number one two three four five =
    let size : len ≡ length a.bytes = is_len ∙ ap (λ (x : Account). length x.bytes) same in
    let e1 : d1 ≡ d ++ a.owner.0 = one ∙ ap (λ (x : Account). d ++ x.owner.0) same in
    let e2 : d2 ≡ d1 ++ number_bytes a.lamports = two ∙ ap (λ (l : List ℕ). d1 ++ l) is_lamports ∙ ap (λ (x : Account). d1 ++ number_bytes x.lamports) same in
    let e3 : d3 ≡ d2 ++ number_bytes (length a.bytes) = three ∙ ap (λ (l : List ℕ). d2 ++ l) is_number ∙ ap (λ n. d2 ++ number_bytes n) size in
    let e5 : d5 ≡ d4 ++ replicate (room - length a.bytes) 0 = five ∙ ap (λ n. d4 ++ replicate (room - n) 0) size in
    let owner : List ℕ = a.owner.0 in
    let lamports : List ℕ = number_bytes a.lamports in
    let number : List ℕ = number_bytes (length a.bytes) in
    let two_in : d2 ≡ d ++ (owner ++ lamports) = then_more d d1 d2 owner lamports e1 e2 in
    let three_in : d3 ≡ d ++ ((owner ++ lamports) ++ number) = then_more d d2 d3 (owner ++ lamports) number two_in e3 in
    let four_in : d4 ≡ d ++ (((owner ++ lamports) ++ number) ++ a.bytes) = then_more d d3 d4 ((owner ++ lamports) ++ number) a.bytes three_in four in
    then_more d d4 d5 (((owner ++ lamports) ++ number) ++ a.bytes) (replicate (room - length a.bytes) 0) four_in e5

-- the first entry of an account, piece by piece
pub first_added : (signer writable : Bool) (s w x room : ℕ) (v a : Account) (key : Key)
    (d d1 d2 d3 d4 d5 d6 zeros last : List ℕ) → s ≡ from_bool signer → w ≡ from_bool writable
    → x ≡ from_bool v.executable → v ≡ a → room ≡ room_of v
    → d1 ≡ d ++ (not_listed_before ∷ s ∷ w ∷ x ∷ []) → d2 ≡ d1 ++ replicate 4 0 → d3 ≡ d2 ++ key.0 → d4 ≡ d3 ++ state_bytes room a → d5 ≡ d4 ++ zeros → d6 ≡ d5 ++ last
    → zeros ≡ replicate (padding (length v.bytes)) 0 → last ≡ number_bytes (2 ^ 64 - 1) → d6 ≡ d ++ first_entry signer writable key a
unfolding first_entry
first_added signer writable s w x room v a key d d1 d2 d3 d4 d5 d6 zeros last is_signer is_writable is_executable same is_room one two three four five six is_zeros is_last =
    let flags : List ℕ = not_listed_before ∷ from_bool signer ∷ from_bool writable ∷ from_bool a.executable ∷ [] in
    let e1 : d1 ≡ d ++ flags = one ∙ ap (λ n. d ++ (not_listed_before ∷ n ∷ w ∷ x ∷ [])) is_signer
    ∙ ap (λ n. d ++ (not_listed_before ∷ from_bool signer ∷ n ∷ x ∷ [])) is_writable
    ∙ ap (λ n. d ++ (not_listed_before ∷ from_bool signer ∷ from_bool writable ∷ n ∷ []))
    (is_executable ∙ ap (λ (y : Account). from_bool y.executable) same) in
    let state : List ℕ = state_bytes (room_of a) a in
    let e4 : d4 ≡ d3 ++ state = four ∙ ap (λ n. d3 ++ state_bytes n a) (is_room ∙ ap (λ (y : Account). room_of y) same) in
    let pad : List ℕ = replicate (padding (length a.bytes)) 0 in
    let e5 : d5 ≡ d4 ++ pad = five ∙ ap (λ (l : List ℕ). d4 ++ l) (is_zeros ∙ ap (λ (y : Account). replicate (padding (length y.bytes)) 0) same) in
    let e6 : d6 ≡ d5 ++ number_bytes (2 ^ 64 - 1) = six ∙ ap (λ (l : List ℕ). d5 ++ l) is_last in
    let head : List ℕ = flags ++ replicate 4 0 in
    let two_in : d2 ≡ d ++ head = then_more d d1 d2 flags (replicate 4 0) e1 two in
    let three_in : d3 ≡ d ++ (head ++ key.0) = then_more d d2 d3 head key.0 two_in three in
    let four_in : d4 ≡ d ++ ((head ++ key.0) ++ state) = then_more d d3 d4 (head ++ key.0) state three_in e4 in
    let five_in : d5 ≡ d ++ (((head ++ key.0) ++ state) ++ pad) = then_more d d4 d5 ((head ++ key.0) ++ state) pad four_in e5 in
    then_more d d5 d6 (((head ++ key.0) ++ state) ++ pad) (number_bytes (2 ^ 64 - 1)) five_in e6

pub length_more : (d d1 a : List ℕ) → d1 ≡ d ++ a → length d1 ≡ length d + length a
length_more d d1 a e = ap length e ∙ length-append d a

-- the accounts of a region, piece by piece
pub accounts_laid : (keys : List Key) (accounts : List Account) (metas : List Meta) (d d1 d2 count : List ℕ)
    → d ≡ [] → count ≡ number_bytes (length metas) → d1 ≡ d ++ count
    → d2 ≡ d1 ++ flat_map (entry_of keys accounts metas) (enumerate_from 0 metas)
    → d2 ≡ number_bytes (length metas) ++ flat_map (entry_of keys accounts metas) (enumerate_from 0 metas)
accounts_laid keys accounts metas d d1 d2 count none is_count one two =
    let whole : d1 ≡ number_bytes (length metas) = one ∙ ap (λ (l : List ℕ). l ++ count) none ∙ is_count in
    two ∙ ap (λ (l : List ℕ). l ++ flat_map (entry_of keys accounts metas) (enumerate_from 0 metas)) whole

-- an instruction behind them, piece by piece
pub instruction_added : (input : List ℕ) (program : Key) (d d1 d2 d3 len : List ℕ)
    → len ≡ number_bytes (length input) → d1 ≡ d ++ len → d2 ≡ d1 ++ input → d3 ≡ d2 ++ program.0
    → d3 ≡ d ++ number_bytes (length input) ++ input ++ program.0
instruction_added input program d d1 d2 d3 len is_len one two three =
    let first : d1 ≡ d ++ number_bytes (length input) = one ∙ ap (λ (l : List ℕ). d ++ l) is_len in
    three ∙ ap (λ (l : List ℕ). l ++ program.0) (two ∙ ap (λ (l : List ℕ). l ++ input) first)

-- a whole region, in its two halves
pub laid_out : (keys : List Key) (accounts : List Account) (metas : List Meta) (input : List ℕ) (program : Key)
    (d d1 : List ℕ) → d ≡ number_bytes (length metas)
    ++ flat_map (entry_of keys accounts metas) (enumerate_from 0 metas)
    → d1 ≡ d ++ number_bytes (length input) ++ input ++ program.0 → d1 ≡ input_of keys accounts metas input program
unfolding input_of
laid_out keys accounts metas input program d d1 first second = second ∙ ap (λ (l : List ℕ). l ++ number_bytes (length input) ++ input ++ program.0) first

-- an entry with another state, piece by piece
pub over_added : (start account : Account) (region d d1 d2 d3 : List ℕ) (entry room : ℕ) → room ≡ room_of start → entry + first_size start ≤ length region → length d2 ≡ length d1 + 48 + room
    → d1 ≡ d ++ take 40 (drop entry region) → d2 ≡ d1 ++ state_bytes room account → d3 ≡ d2 ++ take (padding (length start.bytes) + 8) (drop (entry + 88 + room) region)
    → d3 ≡ d ++ over_entry start account (take (first_size start) (drop entry region))
over_added start account region d d1 d2 d3 entry room is_room within size one two three =
    let all : List ℕ = drop entry region in
    let state : List ℕ = state_bytes room account in
    let long : length state ≡ 48 + room = omega (arith, length_more d1 d2 state two) in
    let tail : ℕ = padding (length start.bytes) + 8 in
    let whole : first_size start ≡ (40 + length state) + tail = omega arith in
    let front : take 40 (take (first_size start) all) ≡ take 40 all = take-take 40 (first_size start) all (omega arith) in
    let back : drop (40 + length state) (take (first_size start) all) ≡ take tail (drop (entry + 88 + room) region) =
    ap (λ n. drop (40 + length state) (take n all)) whole ∙ drop-take (40 + length state) tail all
    ∙ ap (λ (l : List ℕ). take tail l) (drop-drop (40 + length state) entry region ∙ ap (λ n. drop n region) (omega arith)) in
    let two_in : d2 ≡ d ++ (take 40 all ++ state) = then_more d d1 d2 (take 40 all) state one two in
    then_more d d2 d3 (take 40 all ++ state) (take tail (drop (entry + 88 + room) region)) two_in three
    ∙ ap (λ (l : List ℕ). d ++ (l ++ state ++ take tail (drop (entry + 88 + room) region))) (sym front)
    ∙ ap (λ (l : List ℕ). d ++ (take 40 (take (first_size start) all) ++ state ++ l)) (sym back)
    ∙ ap (λ n. d ++ over_by n) is_room
  where
    over_by : ℕ → List ℕ
    over_by n = with_bytes (take (first_size start) (drop entry region)) 40 (state_bytes n account)

-- a copy of a range, one piece on
pub copied_more : (all before d new part : List ℕ) (at done count n : ℕ) → d ≡ before ++ take done (drop at all)
    → part ≡ take n (drop (at + done) all) → new ≡ d ++ part → n ≡ count
    → new ≡ before ++ take (done + count) (drop at all)
copied_more all before d new part at done count n was read e size =
    let piece : part ≡ take count (drop done (drop at all)) = read ∙ ap (λ m. take m (drop (at + done) all)) size ∙ ap (λ (l : List ℕ). take count l) (sym (drop-drop done at all)) in
    then_more before d new (take done (drop at all)) part was e
    ∙ ap (λ (l : List ℕ). before ++ (take done (drop at all) ++ l)) piece
    ∙ ap (λ (l : List ℕ). before ++ l) (sym (take-add done count (drop at all)))

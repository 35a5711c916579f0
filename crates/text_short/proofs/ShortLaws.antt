-- What JSON in the short form stands for is read as a batch.
use Rattle.std.proofs.Common.{◌≡◌, ◌≤◌, ◌+◌, ◌-◌, ◌^◌, ℕ, List, [], ◌∷◌, ◌++◌, length, All, Option, Some, None, Result, Ok, Err, Bool, true, false, if◌then◌else◌, ◌&&◌, refl, sym, ap, subst, ◌∙◌, arith, lit≤}
use Rattle.std.specs.Prelude.{IfOk, IfSome, nat_le, bytes_eq, option_map, option_and_then, codes}
use Rattle.std.specs.Option.{option_or}
use Rattle.std.specs.Result.{result_ok}
use Rattle.std.specs.List.{AllByRecursion}
use Rattle.std.proofs.lemmas.Bool.{and_parts}
use Rattle.std.proofs.lemmas.Bool.Decides.{nat_tests}
use Rattle.std.proofs.lemmas.List.Elements.{All-from_recursion}
use Rattle.hex.specs.Hex.{decode_sized}
use Rattle.hex.specs.declared.error.FromHexError.{FromHexError}
use Rattle.hex.proofs.HexLemmas.{decode_sized-ok, decode_sized-twice, decode_of-ok}
use Rattle.sha2.proofs.Facts256.{length-sha256}
use Rattle.spec_base.specs.Bytes.{max_count}
use Rattle.spec_base.specs.Sha256.{sha256}
use Rattle.spec_base.specs.Reading.{Gives}
use Rattle.spec_base.proofs.Binding.{bind_ok, ok_same}
use Rattle.serde_json.specs.Data.{Data, Items}
use Rattle.serde_json.specs.Find.{as_number, as_u64, as_array}
use Rattle.sol_base.specs.declared.key.Key.{Key}
use Rattle.sol_base.specs.declared.key.Hash32.{Hash32}
use Rattle.sol_base.specs.declared.key.TheConstants.{SYSTEM_PROGRAM, LOADER_PROGRAM, COMPUTE_BUDGET_PROGRAM}
use Rattle.sol_base.specs.Keys.{IsKey}
use Rattle.sol_base.specs.Limits.{max_transactions}
use Rattle.message_codec.specs.declared.message.Message.{Message}
use Rattle.message_codec.specs.Wire.{max_wire_len, tx_bytes}
use Rattle.snapshot_codec.specs.declared.batch.Batch.{Batch}
use Rattle.snapshot_codec.specs.Batch.{IsShortWire, batch_bytes}
use Rattle.snapshot_codec.proofs.BatchLaws.{again}
use Rattle.tx_build.specs.declared.draft.Draft.{Draft}
use Rattle.tx_build.specs.declared.fault.BuildFault.{BuildFault}
use Rattle.tx_build.specs.declared.fault.BuildFault.TheVariants.{TooManyKeys, TooLong, OutOfMemory}
use Rattle.tx_build.specs.Signing.{signed}
use Rattle.tx_build.specs.Built.{is_long, is_long_message, sized, message_in, built}
use Rattle.json_parts.specs.declared.fault.Step.{Step}
use Rattle.json_parts.specs.declared.fault.Step.TheVariants.{Member, Item}
use Rattle.json_parts.specs.declared.fault.Wanted.{Wanted}
use Rattle.json_parts.specs.declared.fault.Wanted.TheVariants.{Number, Array}
use Rattle.json_parts.specs.Faults.{Read, is_json_memory, within}
use Rattle.json_parts.specs.Parts.{or_refused, if_between, number_in, found_in, member_in, known_in, data_of, if_few, items_in, array_in}
use Rattle.text_short.specs.Names.{is_name, program_named, key_of_digits, key_of_name, key_wanted, named_key}
use Rattle.text_short.specs.Members.{text_in, key_in, lone, list_of}
use Rattle.text_short.specs.ShortForm.{draft_in, wire_by, transaction_in, batch_names, short_batch_in}
use Rattle.text_short.specs.Laws.{BuiltBatchesAreRead}

-- ---- members

within_ok : {X : Type 0} (step : Step) (r : Read X) (x : X) → within step r ≡ Ok x → r ≡ Ok x
within_ok step (Ok y) x h = h
within_ok step (Err e) x h = absurd (cc)

member_ok : {X : Type 0} (name : List ℕ) (one : Data → Read X) (d : Data) (x : X) → member_in name one d ≡ Ok x → (found : Data) × (one found ≡ Ok x)
unfolding member_in
member_ok name one d x h =
    let a = bind_ok (found_in name d) _ x h in
    (a.0, within_ok (Member name) (one a.0) x a.2)

-- ---- numbers

at_most : (n most : ℕ) → nat_le n most ≡ true → n ≤ most
at_most n most e = grind (arith, nat_tests)

tested : (least most m n : ℕ) (wanted : Wanted) (b : Bool) → (nat_le least m && nat_le m most) ≡ b → or_refused (if b then Some m else None) wanted ≡ Ok n → (least ≤ n) × (n ≤ most)
tested least most m n wanted true is h =
    let e : m ≡ n = ok_same m n h in
    let parts = and_parts (nat_le least m) (nat_le m most) is in
    (subst (λ (k : ℕ). least ≤ k) e (at_most least m parts.0), subst (λ (k : ℕ). k ≤ most) e (at_most m most parts.1))
tested least most m n wanted false is h = absurd (cc)

between : (least most : ℕ) (found : Option ℕ) (wanted : Wanted) (n : ℕ) → or_refused (option_and_then (if_between least most) found) wanted ≡ Ok n → (least ≤ n) × (n ≤ most)
between least most None wanted n h = absurd (cc)
between least most (Some m) wanted n h = tested least most m n wanted (nat_le least m && nat_le m most) refl h

number_bounds : (least most : ℕ) (d : Data) (n : ℕ) → number_in least most d ≡ Ok n → (least ≤ n) × (n ≤ most)
unfolding number_in
number_bounds least most d n h = between least most (option_and_then as_u64 (as_number d)) (Number least most) n h

-- ---- keys

decoded : (text bytes : List ℕ) → decode_sized text 32 ≡ Ok bytes → length bytes ≡ 32
decoded text bytes h =
    let long = decode_sized-ok text 32 bytes h in
    let facts = decode_of-ok text bytes (sym (decode_sized-twice text 32 long) ∙ h) in
    omega (arith, long, facts.2)

program_long : (system loader budget : Bool) → IfSome (if system then Some SYSTEM_PROGRAM else (if loader then Some LOADER_PROGRAM else (if budget then Some COMPUTE_BUDGET_PROGRAM else None))) IsKey
program_long true loader budget = refl
program_long false true budget = refl
program_long false false true = refl
program_long false false false = tt

digits_long : (r : Result (List ℕ) FromHexError) → ((bytes : List ℕ) → r ≡ Ok bytes → length bytes ≡ 32)
    → IfSome (option_map (λ bytes. (let key : Key = record { 0 = bytes } in key)) (result_ok r)) IsKey
digits_long (Ok bytes) long = long bytes refl
digits_long (Err e) long = tt

name_long : (b : Bool) (text : List ℕ) → IfSome (if b then Some (let key : Key = record { 0 = sha256 text } in key) else None) IsKey
name_long true text = length-sha256 text
name_long false text = tt

first_long : (one other : Option Key) → IfSome one IsKey → IfSome other IsKey → IfSome (option_or one other) IsKey
first_long (Some key) other long others = long
first_long None other long others = others

read_long : (found : Option Key) (wanted : Wanted) (key : Key) → IfSome found IsKey → or_refused found wanted ≡ Ok key → IsKey key
read_long (Some found) wanted key long h = subst IsKey (ok_same found key h) long
read_long None wanted key long h = absurd (cc)

named_long : (text : List ℕ) (key : Key) → named_key text ≡ Ok key → IsKey key
unfolding named_key program_named
named_long text key h =
    let programs = program_long (bytes_eq (codes "system") text) (bytes_eq (codes "loader") text) (bytes_eq (codes "budget") text) in
    let digits = digits_long (decode_sized text 32) (decoded text) in
    let others = first_long (key_of_digits text) (key_of_name text) digits (name_long (is_name text) text) in
    read_long (option_or (program_named text) (option_or (key_of_digits text) (key_of_name text)))
    (key_wanted text) key (first_long (program_named text)
    (option_or (key_of_digits text) (key_of_name text)) programs others) h

key_long : (d : Data) (key : Key) → key_in d ≡ Ok key → IsKey key
unfolding key_in
key_long d key h = let a = bind_ok (text_in d) _ key h in named_long a.0 key a.2

-- ---- lists

counted : (most : ℕ) (found ds : List Data) (wanted : Wanted) (b : Bool) → nat_le (length found) most ≡ b → or_refused (if b then Some found else None) wanted ≡ Ok ds → length ds ≤ most
counted most found ds wanted true is h = subst (λ (l : List Data). length l ≤ most) (ok_same found ds h) (at_most (length found) most is)
counted most found ds wanted false is h = absurd (cc)

few : (most : ℕ) (found : Option Items) (wanted : Wanted) (ds : List Data) → or_refused (option_and_then (if_few most) found) wanted ≡ Ok ds → length ds ≤ most
few most None wanted ds h = absurd (cc)
few most (Some items) wanted ds h = counted most (data_of items) ds wanted (nat_le (length (data_of items)) most) refl h

array_few : (most : ℕ) (d : Data) (ds : List Data) → array_in most d ≡ Ok ds → length ds ≤ most
unfolding array_in
array_few most d ds h = few most (as_array d) (Array most) ds h

-- as many items as there are values, and what holds of each
items_hold : {X : Type 0} (one : Data → Read X) (P : X → Type 0) → ((d : Data) (x : X) → one d ≡ Ok x → P x)
    → (i : ℕ) (ds : List Data) (xs : List X) → items_in (lone one) i ds ≡ Ok xs
    → (length xs ≡ length ds) × AllByRecursion P xs
unfolding items_in
items_hold {X = X} one P each i [] xs h =
    let none : List X = [] in
    subst (λ (l : List X). (length l ≡ 0) × AllByRecursion P l) (ok_same none xs h) (refl, tt)
items_hold {X = X} one P each i (d ∷ ds) xs h =
    let a = bind_ok (within (Item i) (lone one d)) _ xs h in
    let x = bind_ok (one d) _ a.0 (within_ok (Item i) (lone one d) a.0 a.1) in
    let b = bind_ok (items_in (lone one) (i + 1) ds) _ xs a.2 in
    let more = items_hold one P each (i + 1) ds b.0 b.1 in
    let long : length (x.0 ∷ b.0) ≡ length (d ∷ ds) = omega (arith, more.0) in
    let is : x.0 ∷ b.0 ≡ xs = ap (λ (part : List X). part ++ b.0) (ok_same (x.0 ∷ []) a.0 x.2) ∙ ok_same (a.0 ++ b.0) xs b.2 in
    subst (λ (l : List X). (length l ≡ length (d ∷ ds)) × AllByRecursion P l) is (long, (each d x.0 x.1, more.1))

list_holds : {X : Type 0} (most : ℕ) (one : Data → Read X) (P : X → Type 0)
    → ((d : Data) (x : X) → one d ≡ Ok x → P x) → (d : Data) (xs : List X) → list_of most one d ≡ Ok xs
    → (length xs ≤ most) × All P xs
unfolding list_of
list_holds most one P each d xs h =
    let a = bind_ok (array_in most d) _ xs h in
    let hold = items_hold one P each 0 a.0 xs a.2 in
    (omega (arith, hold.0, array_few most d a.0 a.1), All-from_recursion P xs hold.1)

-- ---- transactions

limited : (long too : Bool) (bytes b : List ℕ) → is_long bytes ≡ too
    → (let r : Result (List ℕ) BuildFault = if long then Err TooLong else
    (if too then Err TooLong else Ok bytes) in r) ≡ Ok b → length b ≤ max_count
limited true too bytes b is h = absurd (cc)
limited false true bytes b is h = absurd (cc)
limited false false bytes b is h =
    let below : length bytes ≤ max_wire_len = grind (arith, nat_tests) in
    let wide : max_wire_len ≤ max_count = lit≤ tt in
    subst (λ (l : List ℕ). length l ≤ max_count) (ok_same bytes b h) (omega (arith, below, wide))

sized_short : (message : Message) (b : List ℕ) → sized message ≡ Ok b → length b ≤ max_count
sized_short message b h = limited (is_long_message message) (is_long (tx_bytes (signed message))) (tx_bytes (signed message)) b refl h

built_short : (draft : Draft) (b : List ℕ) → built draft ≡ Ok b → length b ≤ max_count
unfolding built
built_short draft b h = let a = bind_ok (message_in draft) _ b h in sized_short a.0 b a.2

wire_short : (r : Result (List ℕ) BuildFault) (bytes : List ℕ) → ((b : List ℕ) → r ≡ Ok b → length b ≤ max_count) → wire_by r ≡ Ok bytes → length bytes ≤ max_count
wire_short (Ok b) bytes short h = subst (λ (l : List ℕ). length l ≤ max_count) (ok_same b bytes h) (short b refl)
wire_short (Err TooManyKeys) bytes short h = absurd (cc)
wire_short (Err TooLong) bytes short h = absurd (cc)
wire_short (Err OutOfMemory) bytes short h = absurd (cc)

transaction_short : (newest : Option Hash32) (d : Data) (bytes : List ℕ) → transaction_in newest d ≡ Ok bytes → IsShortWire bytes
unfolding transaction_in
transaction_short newest d bytes h =
    let a = bind_ok (draft_in newest d) _ bytes h in
    wire_short (built a.0) bytes (built_short a.0) a.2

-- no more wires than a batch may have, and each is short
abbrev wires_of : Option Hash32 → Data → Read (List (List ℕ))
wires_of newest d = member_in (codes "transactions") (list_of max_transactions (transaction_in newest)) d

wires_hold : (newest : Option Hash32) (d : Data) (wires : List (List ℕ)) → wires_of newest d ≡ Ok wires → (length wires ≤ max_transactions) × All IsShortWire wires
wires_hold newest d wires h =
    let w = member_ok (codes "transactions") (list_of max_transactions (transaction_in newest)) d wires h in
    list_holds max_transactions (transaction_in newest) IsShortWire (transaction_short newest) w.0 wires w.1

pub wires_few : (newest : Option Hash32) (d : Data) (read : Read (List (List ℕ))) → Gives is_json_memory (λ x. x) read (wires_of newest d) → IfOk read (λ wires. length wires ≤ max_transactions)
wires_few newest d (Ok wires) h = (wires_hold newest d wires h).0
wires_few newest d (Err e) h = tt

pub wires_short : (newest : Option Hash32) (d : Data) (read : Read (List (List ℕ))) → Gives is_json_memory (λ x. x) read (wires_of newest d) → IfOk read (λ wires. All IsShortWire wires)
wires_short newest d (Ok wires) h = (wires_hold newest d wires h).1
wires_short newest d (Err e) h = tt

-- ---- batches

pub built_are_read : BuiltBatchesAreRead
unfolding short_batch_in
built_are_read newest d bytes h =
    let known = bind_ok (known_in batch_names d) _ bytes h in
    let slot = bind_ok (member_in (codes "slot") (number_in 1 (2 ^ 64 - 1)) d) _ bytes known.2 in
    let collector = bind_ok (member_in (codes "collector") key_in d) _ bytes slot.2 in
    let wires = bind_ok (member_in (codes "transactions") (list_of max_transactions (transaction_in newest)) d) _ bytes collector.2 in
    let batch : Batch = record { slot = slot.0; collector = collector.0; wires = wires.0 } in
    let s = member_ok (codes "slot") (number_in 1 (2 ^ 64 - 1)) d slot.0 slot.1 in
    let c = member_ok (codes "collector") key_in d collector.0 collector.1 in
    let bounds = number_bounds 1 (2 ^ 64 - 1) s.0 slot.0 s.1 in
    let hold = wires_hold newest d wires.0 wires.1 in (
      batch,
      again 0 bytes batch (record {
        spelled = sym (ok_same (batch_bytes batch) bytes wires.2);
        later = omega (arith, bounds.0);
        few = hold.0;
        short = hold.1;
        slot = omega (arith, bounds.1);
        collector = key_long c.0 collector.0 c.1;
      }),
    )

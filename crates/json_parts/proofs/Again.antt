-- What is written as JSON is read as it was.
use Rattle.std.proofs.Common.{◌≡◌, ◌≤◌, ℕ, ◌+◌, List, [], ◌∷◌, length, map, Some, Ok, true, refl, arith}
use Rattle.std.proofs.lemmas.List.{length-map}
use Rattle.std.specs.Prelude.{nat_le, ◌&&◌}
use Rattle.std.specs.List.{flat_map, AllByRecursion}
use Rattle.std.proofs.lemmas.Bool.Decides.{nat_tests}
use Rattle.spec_base.specs.Bytes.{IsBytes}
use Rattle.spec_base.proofs.Binding.{before_bytes, after_bytes}
use Rattle.hex.proofs.HexLemmas.{decode_sized-encode_lower, decode_of-encode_lower}
use Rattle.serde_json.specs.Data.{Data}
use Rattle.serde_json.specs.Find.{get}
use Rattle.json_parts.specs.Faults.{Read}
use Rattle.json_parts.specs.Written.{hex_json, number_json, list_json}
use Rattle.json_parts.specs.Parts.{number_in, digits_in, spelled_in, data_in, found_in, member_in, items_in, array_in, list_in}
use Rattle.json_parts.proofs.Items.{data_of-items}

up_to : (n most : ℕ) → n ≤ most → nat_le n most ≡ true
up_to n most high = grind (arith, nat_tests)

between : (least most n : ℕ) → least ≤ n → n ≤ most → (nat_le least n && nat_le n most) ≡ true
between least most n low high = rw (up_to least n low, up_to n most high) refl

pub number_again : (least most n : ℕ) → least ≤ n → n ≤ most → number_in least most (number_json n) ≡ Ok n
unfolding number_in
number_again least most n low high = rw (between least most n low high) refl

pub digits_again : (count : ℕ) (bytes : List ℕ) → length bytes ≡ count → IsBytes bytes → digits_in count (hex_json bytes) ≡ Ok bytes
unfolding digits_in
digits_again count bytes long are = rw (decode_sized-encode_lower bytes count long are) refl

pub data_again : (most : ℕ) (bytes : List ℕ) → length bytes ≤ most → IsBytes bytes → data_in most (hex_json bytes) ≡ Ok bytes
unfolding data_in spelled_in
data_again most bytes short are = rw (decode_of-encode_lower bytes are, up_to (length bytes) most short) refl

pub member_again : {X : Type 0} (name : List ℕ) (one : Data → Read X) (d found : Data) (x : X) → get name d ≡ Some found → one found ≡ Ok x → member_in name one d ≡ Ok x
unfolding member_in found_in
member_again name one d found x there is = rw (there, is) refl

pub items_again : {X : Type 0} (one : Data → Read (List ℕ)) (json : X → Data) (spell : X → List ℕ)
    (Fits : X → Type 0) → ((x : X) → Fits x → IsBytes (spell x) → one (json x) ≡ Ok (spell x))
    → (i : ℕ) (xs : List X) → AllByRecursion Fits xs
    → IsBytes (flat_map spell xs) → items_in one i (map json xs) ≡ Ok (flat_map spell xs)
unfolding items_in
items_again one json spell Fits each i [] fit are = refl
items_again one json spell Fits each i (x ∷ xs) fit are =
    let first = each x fit.0 (before_bytes (spell x) (flat_map spell xs) are) in
    let more = items_again one json spell Fits each (i + 1) xs fit.1 (after_bytes _ (spell x) (flat_map spell xs) are refl) in
    rw (first, more) refl

pub list_again : {X : Type 0} (most : ℕ) (one : Data → Read (List ℕ)) (json : X → Data) (xs : List X)
    (bytes : List ℕ) → length xs ≤ most → items_in one 0 (map json xs) ≡ Ok bytes
    → list_in most one (list_json json xs) ≡ Ok (length xs, bytes)
unfolding list_in array_in
list_again most one json xs bytes few read = rw (data_of-items (map json xs), length-map xs json, up_to (length xs) most few, read, length-map xs json) refl

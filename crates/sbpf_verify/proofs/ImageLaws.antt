-- Program images: the parts that are written are read again, and what is read is written so.
use Rattle.std.proofs.Common.{◌≡◌, ℕ, ◌+◌, ◌*◌, ◌/◌, ◌≤◌, List, ◌++◌, length, take, drop, Option, Some, None, Bool, inl, inr, refl, sym, ap, ◌∙◌, min, arith}
use Rattle.std.specs.Prelude.{codes, bytes_eq, if◌then◌else◌}
use Rattle.std.specs.Int.{w32, from_le_bytes, to_le_bytes}
use Rattle.std.proofs.lemmas.List.{take-append-drop, length-take, length-take-le, length-drop, length-append, take_at, drop_at, take_all}
use Rattle.std.proofs.lemmas.Nat.{from_le_bytes-to_le_bytes_4, le_bytes_4}
use Rattle.std.proofs.lemmas.Slice.Eq.{bytes_eq-Decides}
use lib.Seq.{drop-drop}
use Rattle.spec_base.specs.Bytes.{IsBytes}
use Rattle.spec_base.proofs.Binding.{chosen, part_bytes, follows}
use Rattle.spec_base.proofs.Formats.{u32_below}
use Rattle.sbpf_verify.specs.Images.{ImageParts, IsWritable, image_bytes, slots_named, constants_named, parts_named, image_in}

same_parts : (a b : ImageParts) → (let o : Option ImageParts = Some a in o) ≡ Some b → a ≡ b
same_parts a b e = cc

no_parts : {a : ImageParts} → (let o : Option ImageParts = None in o) ≡ Some a → ⊥
no_parts e = cc

-- what the bytes of an image name are its parts
pub parts_of_image : (bytes : List ℕ) (image : ImageParts) → image_in bytes ≡ Some image → parts_named bytes ≡ image
unfolding image_in
parts_of_image bytes image h = elim (chosen (bytes_eq bytes (image_bytes (parts_named bytes))) _ _ _ h) [
  | inl p ↦ same_parts _ _ p.1
  | inr q ↦ absurd (no_parts q.1)
]

-- what is read as an image is written so
pub written : (bytes : List ℕ) (image : ImageParts) → image_in bytes ≡ Some image → bytes ≡ image_bytes image
unfolding image_in
written bytes image h = elim (chosen (bytes_eq bytes (image_bytes (parts_named bytes))) _ _ _ h) [
  | inl p ↦ (bytes_eq-Decides bytes (image_bytes (parts_named bytes))).0 p.0 ∙ ap image_bytes (same_parts _ _ p.1)
  | inr q ↦ absurd (no_parts q.1)
]

-- bytes that are those of the parts that they name are an image
pub read : (bytes : List ℕ) → bytes ≡ image_bytes (parts_named bytes) → image_in bytes ≡ Some (parts_named bytes)
unfolding image_in
read bytes e = ap (λ (b : Bool). let o : Option ImageParts = if b then Some (parts_named bytes) else None in o) ((bytes_eq-Decides bytes (image_bytes (parts_named bytes))).1 e)

-- where the text and the constants stand
parts_at : (bytes text constants : List ℕ) (n m : ℕ) → drop 16 bytes ≡ text ++ constants → slots_named bytes ≡ n → constants_named bytes ≡ m → length text ≡ 8 * n → length constants ≡ m
    → parts_named bytes ≡ record { text = text; constants = constants }
parts_at bytes text constants n m rest s c t k =
    let front : take (8 * slots_named bytes) (drop 16 bytes) ≡ text =
    ap (λ (v : ℕ). take (8 * v) (drop 16 bytes)) s ∙ ap (λ (l : List ℕ). take (8 * n) l) rest ∙ take_at text constants (8 * n) t in
    let back : take (constants_named bytes) (drop (16 + 8 * slots_named bytes) bytes) ≡ constants =
    ap (λ (v : ℕ). take v (drop (16 + 8 * slots_named bytes) bytes)) c
    ∙ ap (λ (v : ℕ). take m (drop (16 + 8 * v) bytes)) s
    ∙ ap (λ (l : List ℕ). take m l) (sym (drop-drop (8 * n) 16 bytes) ∙ ap (λ (l : List ℕ). drop (8 * n) l) rest ∙ drop_at text constants (8 * n) t)
    ∙ take_all m constants (omega (arith, k)) in
    λ i. record { text = front i; constants = back i }

-- what is written as an image is read again
pub read_again : (image : ImageParts) → IsWritable image → image_in (image_bytes image) ≡ Some image
read_again image is =
    let whole : length image.text ≡ 8 * (length image.text / 8) = omega (arith, is.whole_slots) in
    let same : parts_named (image_bytes image) ≡ image =
    parts_at (image_bytes image) image.text image.constants (length image.text / 8) (length image.constants) refl
    (from_le_bytes-to_le_bytes_4 _ is.slots_fit) (from_le_bytes-to_le_bytes_4 _ is.constants_fit) whole refl in
    read (image_bytes image) (ap image_bytes (sym same)) ∙ ap (λ (parts : ImageParts). Some parts) same

part_length : (n k : ℕ) (bytes : List ℕ) → k + n ≤ length bytes → length (take n (drop k bytes)) ≡ n
part_length n k bytes h = length-take-le n (drop k bytes) (omega (arith, h, length-drop k bytes))

-- the field of a number, with the number that is counted
counted : (n k : ℕ) (bytes : List ℕ) → IsBytes bytes → k + 4 ≤ length bytes → n ≡ from_le_bytes w32 (take 4 (drop k bytes)) → take 4 (drop k bytes) ≡ to_le_bytes w32 n
counted n k bytes are h e = sym (le_bytes_4 (take 4 (drop k bytes)) n (part_length 4 k bytes h) (part_bytes 4 k bytes are) e)

-- the five parts of bytes that are long enough
five_parts : (bytes text constants : List ℕ) → drop 16 bytes ≡ text ++ constants
    → bytes ≡ take 8 bytes ++ take 4 (drop 8 bytes) ++ take 4 (drop 12 bytes) ++ text ++ constants
five_parts bytes text constants rest =
    let second : drop 8 bytes ≡ take 4 (drop 8 bytes) ++ drop 12 bytes = sym (take-append-drop 4 (drop 8 bytes)) ∙ ap (λ (l : List ℕ). take 4 (drop 8 bytes) ++ l) (drop-drop 4 8 bytes) in
    let third : drop 12 bytes ≡ take 4 (drop 12 bytes) ++ drop 16 bytes = sym (take-append-drop 4 (drop 12 bytes)) ∙ ap (λ (l : List ℕ). take 4 (drop 12 bytes) ++ l) (drop-drop 4 12 bytes) in
    let two = follows (take 8 bytes) (take 4 (drop 8 bytes)) (drop 12 bytes) (sym (take-append-drop 8 bytes)) second in
    let three = follows (take 8 bytes ++ take 4 (drop 8 bytes)) (take 4 (drop 12 bytes)) (drop 16 bytes) two third in
    follows (take 8 bytes ++ take 4 (drop 8 bytes) ++ take 4 (drop 12 bytes)) text constants three rest

-- bytes that begin with the magic, and are as many as their two numbers say, are an image
pub image_there : (bytes : List ℕ) → IsBytes bytes → take 8 bytes ≡ codes "SBPFIMG1" → length bytes ≡ 16 + 8 * slots_named bytes + constants_named bytes
    → image_in bytes ≡ Some (record { text = take (8 * slots_named bytes) (drop 16 bytes); constants = drop (16 + 8 * slots_named bytes) bytes })
image_there bytes are magic len =
    let n = slots_named bytes in
    let m = constants_named bytes in
    let text = take (8 * n) (drop 16 bytes) in
    let left = drop (16 + 8 * n) bytes in
    let text_length : length text ≡ 8 * n = length-take-le (8 * n) (drop 16 bytes) (omega (arith, len, length-drop 16 bytes)) in
    let left_length : length left ≡ m = omega (arith, len, length-drop (16 + 8 * n) bytes) in
    let rest : drop 16 bytes ≡ text ++ left = sym (take-append-drop (8 * n) (drop 16 bytes)) ∙ ap (λ (l : List ℕ). text ++ l) (drop-drop (8 * n) 16 bytes) in
    let slots : length text / 8 ≡ n = omega (arith, text_length) in
    let first : take 4 (drop 8 bytes) ≡ to_le_bytes w32 (length text / 8) = counted (length text / 8) 8 bytes are (omega (arith, len)) slots in
    let second : take 4 (drop 12 bytes) ≡ to_le_bytes w32 (length left) = counted (length left) 12 bytes are (omega (arith, len)) left_length in
    let image : ImageParts = record { text = text; constants = left } in
    let same : parts_named bytes ≡ image = parts_at bytes text left n m rest refl refl text_length left_length in
    let all : bytes ≡ image_bytes image =
    five_parts bytes text left rest
    ∙ ap (λ (l : List ℕ). l ++ take 4 (drop 8 bytes) ++ take 4 (drop 12 bytes) ++ text ++ left) magic
    ∙ ap (λ (l : List ℕ). codes "SBPFIMG1" ++ l ++ take 4 (drop 12 bytes) ++ text ++ left) first
    ∙ ap (λ (l : List ℕ). codes "SBPFIMG1" ++ to_le_bytes w32 (length text / 8) ++ l ++ text ++ left) second in
    read bytes (all ∙ ap image_bytes (sym same)) ∙ ap (λ (parts : ImageParts). Some parts) same

-- a number that is at least what its field was written from is it
number_is : (n k : ℕ) (bytes : List ℕ) → IsBytes bytes
    → from_le_bytes w32 (take 4 (drop k bytes)) ≡ from_le_bytes w32 (to_le_bytes w32 n)
    → n ≤ from_le_bytes w32 (take 4 (drop k bytes)) → from_le_bytes w32 (take 4 (drop k bytes)) ≡ n
number_is n k bytes are e h = e ∙ from_le_bytes-to_le_bytes_4 n (omega (arith, h, u32_below (take 4 (drop k bytes)) (part_bytes 4 k bytes are)))

image_length : (image : ImageParts) → length (image_bytes image) ≡ 16 + (length image.text + length image.constants)
image_length image = omega (arith, length-append image.text image.constants)

-- and an image does so
pub image_facts : (bytes : List ℕ) (image : ImageParts) → IsBytes bytes → image_in bytes ≡ Some image
    → (take 8 bytes ≡ codes "SBPFIMG1") × (length bytes ≡ 16 + 8 * slots_named bytes + constants_named bytes)
image_facts bytes image are h =
    let w : bytes ≡ image_bytes image = written bytes image h in
    let parts = parts_of_image bytes image h in
    let n = slots_named bytes in
    let m = constants_named bytes in
    let text : length image.text ≡ min (8 * n) (length (drop 16 bytes)) = ap (λ (p : ImageParts). length p.text) (sym parts) ∙ length-take (8 * n) (drop 16 bytes) in
    let left : length image.constants ≡ min m (length (drop (16 + 8 * n) bytes)) = ap (λ (p : ImageParts). length p.constants) (sym parts) ∙ length-take m (drop (16 + 8 * n) bytes) in
    let slots : n ≡ length image.text / 8 = number_is (length image.text / 8) 8 bytes are (ap slots_named w) (omega (arith, text)) in
    let count : m ≡ length image.constants = number_is (length image.constants) 12 bytes are (ap constants_named w) (omega (arith, left)) in
    (ap (λ (l : List ℕ). take 8 l) w, omega (arith, ap length w ∙ image_length image, text, slots, count))

-- bytes that do not are none
pub image_absent : (bytes : List ℕ) → IsBytes bytes → (take 8 bytes ≡ codes "SBPFIMG1" → length bytes ≡ 16 + 8 * slots_named bytes + constants_named bytes → ⊥) → image_in bytes ≡ None
image_absent bytes are differs = by_answer (image_in bytes) refl
  where
    by_answer : (o : Option ImageParts) → image_in bytes ≡ o → image_in bytes ≡ None
    by_answer None e = e
    by_answer (Some image) e = let facts = image_facts bytes image are e in absurd (differs facts.0 facts.1)

-- an image is longer than its two parts
pub parts_within : (bytes : List ℕ) (image : ImageParts) → image_in bytes ≡ Some image → length bytes ≡ 16 + (length image.text + length image.constants)
parts_within bytes image h = ap length (written bytes image h) ∙ image_length image

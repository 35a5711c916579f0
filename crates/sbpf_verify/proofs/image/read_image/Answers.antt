use Rattle.std.proofs.Common.{◌≡◌, ℕ, ◌+◌, ◌-◌, ◌*◌, List, take, drop, length, Some, Bool, true, false, sym, ap, ◌∙◌, arith}
use Rattle.std.specs.Prelude.{codes, bytes_eq}
use Rattle.std.proofs.lemmas.List.{take_rest}
use Rattle.std.proofs.lemmas.Slice.Eq.{bytes_eq-Decides}
use Rattle.sbpf_verify.specs.Images.{ImageParts, slots_named, constants_named}
use Rattle.sbpf_verify.proofs.ImageLaws.{image_there, image_absent}
use Rattle.sbpf_verify.proofs.image.read_image.Goals as goal

-- the test of the first bytes
is_magic : (bytes : List ℕ) (r : Bool) → r ≡ bytes_eq (codes "SBPFIMG1") (take 8 bytes) → r ≡ true → take 8 bytes ≡ codes "SBPFIMG1"
is_magic bytes r value h = sym ((bytes_eq-Decides (codes "SBPFIMG1") (take 8 bytes)).0 (sym value ∙ h))

no_magic : (bytes : List ℕ) (r : Bool) → r ≡ bytes_eq (codes "SBPFIMG1") (take 8 bytes) → r ≡ false → take 8 bytes ≡ codes "SBPFIMG1" → ⊥
no_magic bytes r value h same = let e : r ≡ true = value ∙ (bytes_eq-Decides (codes "SBPFIMG1") (take 8 bytes)).1 (sym same) in absurd (cc)

same_slices : (text left text' left' : List ℕ) → text ≡ text' → left ≡ left'
    → (let a : ImageParts = record { text = text; constants = left } in Some a)
    ≡ (let b : ImageParts = record { text = text'; constants = left' } in Some b)
same_slices text left text' left' t k = λ i. Some (record { text = t i; constants = k i })

slices : (bytes : List ℕ) (n m : ℕ) → n ≡ slots_named bytes → length bytes ≡ 16 + 8 * n + m
    → (take (16 + 8 * n - 16) (drop 16 bytes) ≡ take (8 * slots_named bytes) (drop 16 bytes)) × (take (length bytes - (16 + 8 * n)) (drop (16 + 8 * n) bytes) ≡ drop (16 + 8 * slots_named bytes) bytes)
slices bytes n m e len =
    let part : 16 + 8 * n - 16 ≡ 8 * slots_named bytes = omega (arith, e) in
    (ap (λ (v : ℕ). take v (drop 16 bytes)) part, take_rest bytes (16 + 8 * n) ∙ ap (λ (v : ℕ). drop (16 + 8 * v) bytes) e)

pub returns-then-bytes-lt16 : goal.returns-then-bytes-lt16
returns-then-bytes-lt16 c = sym (image_absent c.args.bytes.now (λ i. omega (arith, c.type_inv.bytes i)) (λ _ len. let short = c.if-bytes-lt16.true in omega (arith, len, short)))

pub returns-then-not-starts_with : goal.returns-then-not-starts_with
returns-then-not-starts_with c =
    sym (image_absent c.args.bytes.now (λ i. omega (arith, c.type_inv.bytes i)) (λ magic _. no_magic c.args.bytes.now c.starts_with.result c.starts_with.ensures.value c.if-not-starts_with.true magic))

pub returns-then-bytes-end : goal.returns-then-bytes-end
returns-then-bytes-end c =
    sym (image_absent c.args.bytes.now (λ i. omega (arith, c.type_inv.bytes i)) (λ _ len. omega (arith, len, c.if-bytes-end.true, c.number_of.ensures.value, c.number_of-2.ensures.value)))

pub returns : goal.returns
returns c =
    let bytes = c.args.bytes.now in
    let n : c.number_of.result ≡ slots_named bytes = c.number_of.ensures.value in
    let m : c.number_of-2.result ≡ constants_named bytes = c.number_of-2.ensures.value in
    let len : length bytes ≡ 16 + 8 * c.number_of.result + c.number_of-2.result = omega (arith, c.if-bytes-end.false) in
    let parts = slices bytes c.number_of.result c.number_of-2.result n len in
    same_slices _ _ _ _ parts.0 parts.1
    ∙ sym (image_there bytes (λ i. omega (arith, c.type_inv.bytes i)) (is_magic bytes c.starts_with.result c.starts_with.ensures.value c.if-not-starts_with.false) (omega (arith, len, n, m)))

-- The lines of constants, read one after another.
use Rattle.std.proofs.Common.{◌≡◌, ◌<◌, ◌+◌, ◌*◌, ◌/◌, ◌%◌, ℕ, zero, suc, Bool, true, List, [], ◌∷◌, ◌++◌, take, drop, length, get_or, Some, None, Ok, refl, sym, ap, subst, ◌∙◌, arith, append-nil, length-drop, codes}
use Rattle.std.specs.Prelude.{nat_lt, if◌then◌else◌}
use Rattle.std.specs.List.{list_all, flat_map, range_with_len}
use Rattle.std.specs.Fork.{slice_chunk}
use Rattle.std.proofs.Math.Seq.{take-add}
use Rattle.std.proofs.lemmas.Bool.{and_from, lt-ltb}
use Rattle.std.proofs.lemmas.Bool.Decides.{nat_tests}
use Rattle.std.proofs.lemmas.List.{length-take, take_all}
use Rattle.hex.specs.Hex.{lower_digits, encode_with, encode_lower, decode_of}
use Rattle.hex.proofs.HexLemmas.{length-encode_with, decode_of-encode_lower}
use Rattle.spec_base.specs.Bytes.{IsBytes}
use Rattle.spec_base.proofs.Binding.{part_bytes}
use Rattle.sbpf_asm.specs.Words.{Text, is_hex_digit, trim}
use Rattle.sbpf_asm.specs.Lines.{constants, decoded, are_digits, constants_item, parts_item, item_of, lines_of}
use Rattle.sbpf_asm.specs.Assembly.{Source, is_text, with_line, with_lines}
use Rattle.sbpf_asm.specs.Listing.{constants_text, constant_line}
use Rattle.sbpf_asm.proofs.Digits.{all_get}
use Rattle.sbpf_asm.proofs.Clean.{Clean, is_plain, weaker}
use Rattle.sbpf_asm.proofs.Sources.{lines_on}
use Rattle.sbpf_asm.proofs.ListedLines.{line_parts, trim_clean, word_first, word_is_text, word_text}
use Rattle.sbpf_asm.proofs.ListedWalk.{Holds, line_first}

-- ---- a line

hex_digit : (d : ℕ) → d < 16 → is_hex_digit (get_or lower_digits d 0) ≡ true
hex_digit d h = all_get is_hex_digit lower_digits d refl h

hex_digits : (bytes : List ℕ) → IsBytes bytes → list_all is_hex_digit (encode_lower bytes) ≡ true
unfolding encode_with
hex_digits [] are = refl
hex_digits (b ∷ bytes) are =
    let below : b < 256 = are 0 in
    rw (hex_digit (b / 16) (omega arith), hex_digit (b % 16) (omega arith)) (hex_digits bytes (λ i. are (suc i)))

plain_digit : (c : ℕ) → is_hex_digit c ≡ true → is_plain c ≡ true
plain_digit c h = grind (arith, nat_tests)

some_digits : (bytes : List ℕ) → 0 < length bytes → 0 < length (encode_lower bytes)
some_digits bytes h = omega (arith, length-encode_with lower_digits bytes)

clean_digits : (bytes : List ℕ) → 0 < length bytes → IsBytes bytes → Clean (encode_lower bytes)
clean_digits bytes h are = record { some = some_digits bytes h; all = weaker is_hex_digit is_plain plain_digit (encode_lower bytes) (hex_digits bytes are) }

clean_word : Clean (codes ".const")
clean_word = record { some = omega arith; all = refl }

as_word : (bytes : List ℕ) → constants_text bytes ≡ word_text (codes ".const") (encode_lower bytes ∷ [])
as_word bytes = ap (λ (t : Text). codes ".const " ++ t) (sym (append-nil (encode_lower bytes)))

digits_back : (bytes : List ℕ) → 0 < length bytes → IsBytes bytes → constants_item (encode_lower bytes) ≡ Some (constants bytes)
digits_back bytes h are =
    let digits : are_digits (encode_lower bytes)
    ≡ true = and_from (list_all is_hex_digit (encode_lower bytes)) (nat_lt 0 (length (encode_lower bytes)))
    (hex_digits bytes are) (lt-ltb 0 (length (encode_lower bytes)) (some_digits bytes h)) in
    ap (λ (b : Bool). if b then decoded (decode_of (encode_lower bytes)) else None) digits ∙ ap decoded (decode_of-encode_lower bytes are)

-- a line of constants is read as them
constants_back : (bytes : List ℕ) → 0 < length bytes → IsBytes bytes → item_of (constants_text bytes) ≡ Some (constants bytes)
constants_back bytes h are =
    let digits = clean_digits bytes h are in
    ap item_of (as_word bytes)
    ∙ line_parts (codes ".const") (encode_lower bytes ∷ []) clean_word (digits, tt)
    ∙ ap parts_item (word_first (codes ".const") (encode_lower bytes ++ []) clean_word)
    ∙ ap (λ (t : Text). constants_item (trim t)) (append-nil (encode_lower bytes))
    ∙ ap constants_item (trim_clean (encode_lower bytes) digits)
    ∙ digits_back bytes h are

constants_are_text : (bytes : List ℕ) → 0 < length bytes → IsBytes bytes → is_text (constants_text bytes) ≡ true
constants_are_text bytes h are = ap is_text (as_word bytes) ∙ word_is_text (codes ".const") (encode_lower bytes ∷ []) clean_word (clean_digits bytes h are, tt)

-- ---- lines of 32 bytes

abbrev line_count : List ℕ → ℕ
line_count bytes = (length bytes + 31) / 32

-- so many lines from one on
abbrev constants_from : List ℕ → ℕ → ℕ → Text
constants_from bytes j count = flat_map (constant_line bytes) (range_with_len j count)

some_left : (bytes : List ℕ) (j : ℕ) → j < line_count bytes → 0 < length (slice_chunk bytes 32 j)
some_left bytes j h = omega (arith, length-take 32 (drop (j * 32) bytes), length-drop (j * 32) bytes)

-- the source with more constants
abbrev more : Source → List ℕ → Source
more s bytes = record s { constants = s.constants ++ bytes }

one_line : (n : ℕ) (s : Source) (bytes : List ℕ) → 0 < length bytes → IsBytes bytes → with_line n s (constants_text bytes) ≡ Ok (more s bytes)
one_line n s bytes h are = rw (constants_are_text bytes h are, constants_back bytes h are) refl

holds_more : (text bytes : List ℕ) (p j : ℕ) (s : Source) → Holds text p (take (j * 32) bytes) s → Holds text p (take ((j + 1) * 32) bytes) (more s (slice_chunk bytes 32 j))
holds_more text bytes p j s h =
    let next : (j + 1) * 32 ≡ j * 32 + 32 = omega arith in
    record {
      slots = h.slots;
      constants = ap (λ (c : List ℕ). c ++ slice_chunk bytes 32 j) h.constants ∙ sym (ap (λ (k : ℕ). take k bytes) next ∙ take-add (j * 32) 32 bytes);
      settles = h.settles;
    }

-- lines that have all been read
pub record Read (text : List ℕ) (p n : ℕ) (bytes : List ℕ) (s : Source) (lines : Text) : Type 0 where
  pub source : Source
  pub holds : Holds text p bytes source
  pub same : with_lines n s (lines_of lines) ≡ Ok source

-- the lines of constants are read as them
pub read : (text bytes : List ℕ) (p : ℕ) → IsBytes bytes → (count j n : ℕ) (s : Source) → j + count ≡ line_count bytes → Holds text p (take (j * 32) bytes) s
    → Read text p n bytes s (constants_from bytes j count)
read text bytes p are zero j n s e h =
    let whole : take (j * 32) bytes ≡ bytes = take_all (j * 32) bytes (omega arith) in
    record { source = s; holds = subst (λ (c : List ℕ). Holds text p c s) whole h; same = refl }
read text bytes p are (suc count) j n s e h =
    let chunk = slice_chunk bytes 32 j in
    let some = some_left bytes j (omega arith) in
    let here = part_bytes 32 (j * 32) bytes are in
    let rest = constants_from bytes (j + 1) count in
    let r = read text bytes p are count (j + 1) (n + 1) (more s chunk) (omega arith) (holds_more text bytes p j s h) in
    record {
      source = r.source;
      holds = r.holds;
      same = lines_on n s (more s chunk) (constants_from bytes j (suc count)) rest (constants_text chunk)
          (line_first (constants_text chunk) rest (constants_are_text chunk some here)) (one_line n s chunk some here)
          ∙ r.same;
    }

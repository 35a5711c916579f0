-- What a line that is spelled as nothing lacks.
use Rattle.std.proofs.Common.{◌≡◌, ℕ, ◌+◌, ◌-◌, ◌==◌, Bool, true, false, List, [], ◌∷◌, Option, Some, None, is_some, refl, length, take, codes}
use Rattle.std.specs.Prelude.{option_map, option_and_then}
use Rattle.std.specs.Str.{bytes_eq}
use Rattle.sbpf_asm.specs.declared.row.Operand.{Operand}
use Rattle.sbpf_asm.specs.declared.row.Operand.TheVariants.{Destination, Source, RegisterOrNumber, Number, JumpTarget, DestinationPlace, SourcePlace, RegisterNumber}
use Rattle.sbpf_asm.specs.Words.{Text, cut, is_blank, number_of, ends_with}
use Rattle.sbpf_asm.specs.Operands.{is_name, register_of, place_of, target_of}
use Rattle.sbpf_asm.specs.Rows.{Draft, Row, draft_of, row_of, start, with_operand, with_operands}
use Rattle.sbpf_asm.specs.Lines.{instruction, after_word, code_item, item_of, label_item, code_of, word_item, operands_of as texts_of}
use Rattle.asm_hints.specs.Hints.{code_hint, is_operand, line_hint, name_hint, operands_hint, row_hint, word_hint}

some_map : {X Y : Type 0} → (f : X → Y) (o : Option X) → is_some o ≡ true → is_some (option_map f o) ≡ true
some_map f None h = h
some_map f (Some x) h = refl

no_map : {X Y : Type 0} → (f : X → Y) (o : Option X) → option_map f o ≡ None → o ≡ None
no_map f None h = refl
no_map f (Some x) h = absurd (cc)

-- a text that is spelled as an operand is read as one
either_read : (text : Text) (d : Draft) (o : Option ℕ) → register_of text ≡ o → is_operand RegisterOrNumber text ≡ true → is_some (with_operand RegisterOrNumber text d) ≡ true
either_read text d (Some r) e h = rw e refl
either_read text d None e h = rw e (some_map _ _ (some_map _ (number_of text) (rw e at h)))

read : (o : Operand) (text : Text) (d : Draft) → is_operand o text ≡ true → is_some (with_operand o text d) ≡ true
read Destination text d h = some_map _ _ (some_map _ (register_of text) h)
read Source text d h = some_map _ _ (some_map _ (register_of text) h)
read RegisterOrNumber text d h = either_read text d (register_of text) refl h
read Number text d h = some_map _ _ (some_map _ (number_of text) h)
read JumpTarget text d h = some_map _ (target_of text) h
read DestinationPlace text d h = some_map _ _ (some_map _ (place_of text) h)
read SourcePlace text d h = some_map _ _ (some_map _ (place_of text) h)
read RegisterNumber text d h = some_map _ _ (some_map _ (register_of text) h)

operands_wanted : (n : ℕ) (os : List Operand) (texts : List Text) (d : Draft) → with_operands os texts d ≡ None → is_some (operands_hint n os texts) ≡ true
operands_wanted n [] [] d h = absurd (cc)
operands_wanted n [] (t ∷ texts) d h = refl
operands_wanted n (o ∷ os) [] d h = refl
operands_wanted n (o ∷ os) (t ∷ texts) d h = go (operands_wanted (n + 1) os texts) (is_operand o t) refl
  where
    others : ((e : Draft) → with_operands os texts e ≡ None → is_some (operands_hint (n + 1) os texts) ≡ true)
        → (r : Option Draft) → is_some r ≡ true → option_and_then (with_operands os texts) r ≡ None → is_some (operands_hint (n + 1) os texts) ≡ true
    others each None s k = absurd (cc)
    others each (Some e) s k = each e k

    go : ((e : Draft) → with_operands os texts e ≡ None → is_some (operands_hint (n + 1) os texts) ≡ true) → (b : Bool) → is_operand o t ≡ b → is_some (operands_hint n (o ∷ os) (t ∷ texts)) ≡ true
    go each true e = rw e (others each (with_operand o t d) (read o t d e) h)
    go each false e = rw e refl

row_wanted : (word : Text) (r : Option Row) (texts : List Text) → draft_of r texts ≡ None → is_some (row_hint word r texts) ≡ true
row_wanted word None texts h = refl
row_wanted word (Some r) texts h = operands_wanted 0 _ texts (start r) h

word_wanted : (word rest : Text) (b : Bool) → bytes_eq word (codes ".const") ≡ b → word_item word rest ≡ None → is_some (word_hint word rest) ≡ true
word_wanted word rest true e h = rw e refl
word_wanted word rest false e h = rw e (row_wanted word (row_of word) (texts_of rest) (no_map instruction _ (rw e at h)))

name_wanted : (name : Text) (b : Bool) → is_name name ≡ b → label_item name ≡ None → is_some (name_hint name) ≡ true
name_wanted name true e h = let k = rw e at h in absurd (cc)
name_wanted name false e h = rw e refl

code_wanted : (code : Text) (a b : Bool) → (length code == 0) ≡ a → ends_with code (codes ":") ≡ b → code_item code ≡ None → is_some (code_hint code) ≡ true
code_wanted code true b e f h = let k = rw e at h in absurd (cc)
code_wanted code false true e f h = rw (e, f) (name_wanted (take (length code - 1) code) _ refl (rw (e, f) at h))
code_wanted code false false e f h = rw (e, f) (word_wanted (cut is_blank code).front (after_word (cut is_blank code).rest) _ refl (rw (e, f) at h))

pub line_wanted : (line : Text) → item_of line ≡ None → is_some (line_hint line) ≡ true
unfolding line_hint
line_wanted line h = code_wanted (code_of line) _ _ refl refl h

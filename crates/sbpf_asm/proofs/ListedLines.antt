-- The line of an instruction, read again.
use Rattle.std.proofs.Common.{◌≡◌, ◌<◌, ℕ, ◌==◌, not, Bool, true, false, List, [], ◌∷◌, ◌++◌, length, Some, None, refl, ap, ap₂, ◌∙◌, map, arith, rules, append-nil, length-append, codes, sym}
use Rattle.std.specs.Prelude.{ℤ, pos, fold, option_map}
use Rattle.std.specs.List.{list_all, AllByRecursion, slice_split}
use Rattle.std.specs.Str.{bytes_eq}
use Rattle.std.proofs.lemmas.Bool.Decides.{nat_tests}
use Rattle.std.proofs.lemmas.List.{length_push}
use Rattle.sbpf_asm.specs.declared.instruction.Instruction.{Instruction}
use Rattle.sbpf_isa.specs.declared.rows.OpKind.{OpKind}
use Rattle.sbpf_isa.specs.declared.rows.OpKind.TheVariants.{Call, LittleEndian, BigEndian}
use Rattle.sbpf_asm.specs.declared.row.Operand.{Operand}
use Rattle.sbpf_asm.specs.Words.{Text, Cut, is_blank, is_comma, is_semicolon, trim, cut, ends_with}
use Rattle.sbpf_asm.specs.Rows.{Row, rows, row_of, start, with_instruction, draft_of, operand_text, operands_of, operands_text, row_text}
use Rattle.sbpf_asm.specs.Lines.{instruction, code_item, parts_item, word_item, operands_of as line_operands, after_word, item_of}
use Rattle.sbpf_asm.specs.Assembly.{is_text_byte, is_text}
use Rattle.sbpf_asm.proofs.Pieces.{cut_none, cut_here, split_none, split_here, trim_framed, all_append}
use Rattle.sbpf_asm.proofs.Clean.{Clean, is_plain, weaker, plain_not_blank, plain_no_comma, plain_no_semicolon, plain_no_colon, Ends, ends_after, ends_append, clean_ends, framed, clean_framed}
use Rattle.sbpf_asm.proofs.Sources.{no_empty}
use Rattle.sbpf_asm.proofs.Operands.{IsWide, IsNumbered, operand_clean, operands_back, ends_push, taken}

-- ---- operands parted by commas

-- operands behind a first one
abbrev more_operands : List Text → Text
more_operands texts = operands_text (codes ", ") texts

abbrev pub AllClean : List Text → Type 0
AllClean texts = AllByRecursion Clean texts

ends_more : (t : Text) (texts : List Text) → Clean t → AllClean texts → Ends (t ++ more_operands texts)
ends_more t [] h all = rw append-nil (clean_ends t h)
ends_more t (u ∷ texts) h all = ends_append t (more_operands (u ∷ texts)) (ends_after 44 (32 ∷ (u ++ more_operands texts)) (ends_after 32 (u ++ more_operands texts) (ends_more u texts all.0 all.1)))

split_operands : (t : Text) (texts : List Text) → list_all (λ b. not (is_comma b)) t ≡ true → AllClean texts → slice_split is_comma (t ++ more_operands texts) ≡ t ∷ map (λ (u : Text). 32 ∷ u) texts
split_operands t [] h all = rw append-nil (split_none is_comma t h)
split_operands t (u ∷ texts) h all =
    split_here is_comma t 44 (32 ∷ (u ++ more_operands texts)) h refl
    ∙ ap (λ (parts : List Text). t ∷ parts) (split_operands (32 ∷ u) texts (weaker is_plain (λ b. not (is_comma b)) plain_no_comma u all.0.all) all.1)

pub trim_clean : (t : Text) → Clean t → trim t ≡ t
trim_clean t h = trim_framed t (clean_framed t h)

trim_all : (texts : List Text) → AllClean texts → map trim (map (λ (u : Text). 32 ∷ u) texts) ≡ texts
trim_all [] all = refl
trim_all (u ∷ texts) all = ap₂ (λ (t : Text) (ts : List Text). t ∷ ts) (trim_clean u all.0) (trim_all texts all.1)

operands_some : (text : Text) → 0 < length text → line_operands text ≡ map trim (slice_split is_comma text)
operands_some text h = rw (no_empty (length text) h) refl

operands_read : (t : Text) (texts : List Text) → Clean t → AllClean texts → line_operands (t ++ more_operands texts) ≡ t ∷ texts
operands_read t texts h all =
    operands_some (t ++ more_operands texts) (omega (arith, length-append t (more_operands texts), h.some))
    ∙ ap (map trim) (split_operands t texts (weaker is_plain (λ b. not (is_comma b)) plain_no_comma t h.all) all)
    ∙ ap₂ (λ (x : Text) (xs : List Text). x ∷ xs) (trim_clean t h) (trim_all texts all)

-- ---- a word and its operands

-- a word with its operands
abbrev pub word_text : Text → List Text → Text
word_text word texts = word ++ operands_text (codes " ") texts

word_alone : (word : Text) → Clean word → cut is_blank word ≡ record { front = word; rest = None }
word_alone word h = cut_none is_blank word (weaker is_plain (λ b. not (is_blank b)) plain_not_blank word h.all)

pub word_first : (word rest : Text) → Clean word → cut is_blank (word ++ 32 ∷ rest) ≡ record { front = word; rest = Some (32, rest) }
word_first word rest h = cut_here is_blank word 32 rest (weaker is_plain (λ b. not (is_blank b)) plain_not_blank word h.all) refl

read_operands : (word : Text) (texts : List Text) → bytes_eq word (codes ".const") ≡ false → Clean word
    → AllClean texts → parts_item (cut is_blank (word_text word texts))
    ≡ option_map instruction (draft_of (row_of word) texts)
read_operands word texts e h all = ap
    (λ (w : Text). word_item w (after_word (cut is_blank (word_text word texts)).rest)) (front texts)
    ∙ rw e (ap (λ (ts : List Text). option_map instruction (draft_of (row_of word) ts)) (parts texts all))
  where
    parts : (texts : List Text) → AllClean texts → line_operands (after_word (cut is_blank (word_text word texts)).rest) ≡ texts
    parts [] all = rw (append-nil word, word_alone word h) refl
    parts (t ∷ texts) all =
        ap (λ (c : Cut). line_operands (after_word c.rest)) (word_first word (t ++ more_operands texts) h)
        ∙ ap line_operands (trim_framed (t ++ more_operands texts) (framed t (more_operands texts) all.0 (ends_more t texts all.0 all.1)))
        ∙ operands_read t texts all.0 all.1

    front : (texts : List Text) → (cut is_blank (word_text word texts)).front ≡ word
    front [] = rw (append-nil word, word_alone word h) refl
    front (t ∷ texts) = ap (λ (c : Cut). c.front) (word_first word (t ++ more_operands texts) h)

-- ---- the whole line

ends_code : (word : Text) (texts : List Text) → Clean word → AllClean texts → Ends (word_text word texts)
ends_code word [] h all = rw append-nil (clean_ends word h)
ends_code word (t ∷ texts) h all = ends_append word (32 ∷ (t ++ more_operands texts)) (ends_after 32 (t ++ more_operands texts) (ends_more t texts all.0 all.1))

-- what ends in a plain byte is no label
no_label : (before : Text) (last : ℕ) → is_plain last ≡ true → code_item (before ++ last ∷ []) ≡ parts_item (cut is_blank (before ++ last ∷ []))
no_label before last plain =
    let code = before ++ last ∷ [] in
    let l = length_push before last in
    let some : (length code == 0) ≡ false = no_empty (length code) (omega arith) in
    let ends : ends_with code (codes ":") ≡ false = ends_push before last 58 ∙ rw (plain_no_colon last plain) refl in
    rw (some, ends) refl

-- what is true of plain bytes, of a space and of a comma is true of a word with its operands
all_word : (p : ℕ → Bool) (word : Text) (texts : List Text) → ((c : ℕ) → is_plain c ≡ true → p c ≡ true)
    → p 32 ≡ true → p 44 ≡ true → Clean word → AllClean texts → list_all p (word_text word texts) ≡ true
all_word p word texts plain space comma h all = all_append p word (operands_text (codes " ") texts) (weaker is_plain p plain word h.all) (rest texts all)
  where
    more : (texts : List Text) → AllClean texts → list_all p (more_operands texts) ≡ true
    more [] all = refl
    more (u ∷ texts) all = rw (comma, space) (all_append p u (more_operands texts) (weaker is_plain p plain u all.0.all) (more texts all.1))

    rest : (texts : List Text) → AllClean texts → list_all p (operands_text (codes " ") texts) ≡ true
    rest [] all = refl
    rest (t ∷ texts) all = rw space (all_append p t (more_operands texts) (weaker is_plain p plain t all.0.all) (more texts all.1))

-- the item of a line of a word and its operands is that of its parts
pub line_parts : (word : Text) (texts : List Text) → Clean word → AllClean texts → item_of (word_text word texts) ≡ parts_item (cut is_blank (word_text word texts))
line_parts word texts h all =
    let code = word_text word texts in
    let ends = ends_code word texts h all in
    ap (λ (c : Cut). code_item (trim c.front)) (cut_none is_semicolon code (all_word (λ b. not (is_semicolon b)) word texts plain_no_semicolon refl refl h all))
    ∙ ap code_item (trim_framed code (framed word (operands_text (codes " ") texts) h ends))
    ∙ ap code_item ends.same ∙ no_label ends.before ends.last ends.plain ∙ ap (λ (t : Text). parts_item (cut is_blank t)) (sym ends.same)

-- ---- the rows

clean_texts : (i : Instruction) (os : List Operand) → IsWide i → AllClean (map (operand_text i) os)
clean_texts i [] w = tt
clean_texts i (o ∷ os) w = (operand_clean i o w, clean_texts i os w)

-- what a row has of itself: `call` its source, `le` and `be` their bits, and the others nothing
abbrev pub IsBare : OpKind → ℕ → ℤ → Type 0
IsBare Call src imm = imm ≡ pos 0
IsBare LittleEndian src imm = src ≡ 0
IsBare BigEndian src imm = src ≡ 0
IsBare kind src imm = (src ≡ 0) × (imm ≡ pos 0)

-- a row's mnemonic is clean and its own
pub record IsRow (r : Row) : Type 0 where
  pub own : row_of r.mnemonic ≡ Some r
  pub some : 0 < length r.mnemonic
  pub plain : list_all is_plain r.mnemonic ≡ true
  pub bare : IsBare r.kind r.src r.imm
  pub no_const : bytes_eq r.mnemonic (codes ".const") ≡ false

clean_row : (r : Row) → IsRow r → Clean r.mnemonic
clean_row r is_row = record { some = is_row.some; all = is_row.plain }

-- what a row writes of an instruction: its own fields, and those of the operands
abbrev pub written : Row → Instruction → Instruction
written r i = fold (taken i) (start r).instruction (operands_of r.kind r.src)

-- the line of an instruction is read as what its row writes of it
pub row_back : (r : Row) (i : Instruction) → IsRow r → IsWide i
    → AllByRecursion (IsNumbered i) (operands_of r.kind r.src)
    → item_of (row_text r i) ≡ Some (instruction (with_instruction (start r) (written r i)))
row_back r i is_row w n =
    let texts = map (operand_text i) (operands_of r.kind r.src) in
    let all = clean_texts i (operands_of r.kind r.src) w in
    line_parts r.mnemonic texts (clean_row r is_row) all
    ∙ read_operands r.mnemonic texts is_row.no_const (clean_row r is_row) all
    ∙ rw (is_row.own, operands_back i (start r) (operands_of r.kind r.src) w n) refl

-- its bytes are text
plain_text : (c : ℕ) → is_plain c ≡ true → is_text_byte c ≡ true
plain_text c h = grind (arith, nat_tests)

pub word_is_text : (word : Text) (texts : List Text) → Clean word → AllClean texts → is_text (word_text word texts) ≡ true
word_is_text word texts h all = all_word is_text_byte word texts plain_text refl refl h all

pub row_is_text : (r : Row) (i : Instruction) → IsRow r → IsWide i → is_text (row_text r i) ≡ true
row_is_text r i is_row w = word_is_text r.mnemonic (map (operand_text i) (operands_of r.kind r.src)) (clean_row r is_row) (clean_texts i (operands_of r.kind r.src) w)

pub all_rows : AllByRecursion IsRow rows
unfolding rows
all_rows = search rules

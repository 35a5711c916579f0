-- The instructions of assembler text: mnemonics, operands, and what they stand for (the project's
-- own format).
use Rattle.std.specs.Prelude.{ℕ, ◌==◌, ◌&&◌, Bool, true, false, List, [], ◌∷◌, ◌++◌, map, filter, find, Option, Some, None, option_map, option_and_then, if◌then◌else◌, codes, ℤ, pos, unsigned_abs}
use Rattle.std.specs.Ordering.{int_eq}
use Rattle.std.specs.Str.{bytes_eq}
use Rattle.std.specs.Fmt.{signed_decimal}
use Rattle.sbpf_isa.specs.declared.rows.Operation.{Operation}
use Rattle.sbpf_isa.specs.declared.rows.Operation.TheVariants.{Add, Sub, Mul, Div, Or, And, Lsh, Rsh, Mod, Xor, Mov, Arsh}
use Rattle.sbpf_isa.specs.declared.rows.Width.TheVariants.{Bits64, Bits32}
use Rattle.sbpf_isa.specs.declared.rows.Operand.TheVariants.{Immediate, Register}
use Rattle.sbpf_isa.specs.declared.rows.Condition.{Condition}
use Rattle.sbpf_isa.specs.declared.rows.Condition.TheVariants.{Equal, NotEqual, Greater, GreaterOrEqual, Less, LessOrEqual, Set, SignedGreater, SignedGreaterOrEqual, SignedLess, SignedLessOrEqual}
use Rattle.sbpf_isa.specs.declared.rows.Size.{Size}
use Rattle.sbpf_isa.specs.declared.rows.Size.TheVariants.{Four, Two, One, Eight}
use Rattle.sbpf_isa.specs.declared.rows.OpKind.{OpKind}
use Rattle.sbpf_isa.specs.declared.rows.OpKind.TheVariants.{Binary, Negate, LittleEndian, BigEndian, Jump, JumpIf, Call, CallRegister, Exit, Load, Store, LoadWide}
use Rattle.sbpf_isa.specs.Rows.{opcode_of}
use Rattle.sbpf_asm.specs.declared.instruction.Instruction.{Instruction}
use Rattle.sbpf_asm.specs.declared.row.Operand.{Operand}
use Rattle.sbpf_asm.specs.declared.row.Operand.TheVariants.{Destination, Source, RegisterOrNumber, Number, JumpTarget, DestinationPlace, SourcePlace, RegisterNumber}
use Rattle.sbpf_asm.specs.Words.{Text, number_of}
use Rattle.sbpf_asm.specs.Operands.{Target, label, offset, register_of, register_text, target_of, place_of, place_text, signed_text}

-- a row of the table: a mnemonic, and what its instruction has without operands: what it is, with
-- an immediate where a register may stand too, its source and its immediate
pub record Row : Type 0 where
  pub mnemonic : Text
  pub kind : OpKind
  pub src : ℕ
  pub imm : ℤ

abbrev pub row : Text → OpKind → Row
row mnemonic kind = record { mnemonic = mnemonic; kind = kind; src = 0; imm = pos 0 }

-- an operation on 64 bits, and on 32
abbrev pub operation : Text → Operation → List Row
operation name op =
    row (name ++ codes "64") (Binary op Bits64 Immediate)
    ∷ row (name ++ codes "32") (Binary op Bits32 Immediate) ∷ []

-- `le` and `be`, whose number of bits is the immediate
abbrev pub swap : Text → OpKind → ℤ → Row
swap mnemonic kind bits = record (row mnemonic kind) { imm = bits }

abbrev pub jump : Text → Condition → Row
jump mnemonic when = row mnemonic (JumpIf when Immediate)

-- a load and the stores of a size
abbrev pub moves : Text → Size → List Row
moves name size =
    row (codes "ldx" ++ name) (Load size) ∷ row (codes "st" ++ name) (Store size Immediate)
    ∷ row (codes "stx" ++ name) (Store size Register) ∷ []

-- the table
unfoldable pub rows : List Row
rows =
    operation (codes "add") Add ++ operation (codes "sub") Sub ++ operation (codes "mul") Mul ++
    operation (codes "div") Div ++ operation (codes "or") Or ++ operation (codes "and") And ++
    operation (codes "lsh") Lsh ++ operation (codes "rsh") Rsh ++ operation (codes "mod") Mod ++
    operation (codes "xor") Xor ++ operation (codes "mov") Mov ++ operation (codes "arsh") Arsh ++
    row (codes "neg64") (Negate Bits64) ∷ row (codes "neg32") (Negate Bits32) ∷
    swap (codes "le16") LittleEndian (pos 16) ∷ swap (codes "le32") LittleEndian (pos 32) ∷
    swap (codes "le64") LittleEndian (pos 64) ∷ swap (codes "be16") BigEndian (pos 16) ∷
    swap (codes "be32") BigEndian (pos 32) ∷ swap (codes "be64") BigEndian (pos 64) ∷
    row (codes "ja") Jump ∷ jump (codes "jeq") Equal ∷ jump (codes "jne") NotEqual ∷
    jump (codes "jgt") Greater ∷ jump (codes "jge") GreaterOrEqual ∷ jump (codes "jlt") Less ∷
    jump (codes "jle") LessOrEqual ∷ jump (codes "jset") Set ∷ jump (codes "jsgt") SignedGreater ∷
    jump (codes "jsge") SignedGreaterOrEqual ∷ jump (codes "jslt") SignedLess ∷
    jump (codes "jsle") SignedLessOrEqual ∷ record (row (codes "call") Call) { src = 1 } ∷
    row (codes "syscall") Call ∷ row (codes "callx") CallRegister ∷ row (codes "exit") Exit ∷
    (moves (codes "w") Four ++ moves (codes "h") Two ++ moves (codes "b") One ++
    moves (codes "dw") Eight ++ row (codes "lddw") LoadWide ∷ [])

-- the operands of a kind, in their order: of `call` a target, of `syscall`, whose source is 0, a
-- number
abbrev pub operands_of : OpKind → ℕ → List Operand
operands_of (Binary op width second) src = Destination ∷ RegisterOrNumber ∷ []
operands_of (Negate width) src = Destination ∷ []
operands_of LittleEndian src = Destination ∷ []
operands_of BigEndian src = Destination ∷ []
operands_of Jump src = JumpTarget ∷ []
operands_of (JumpIf when second) src = Destination ∷ RegisterOrNumber ∷ JumpTarget ∷ []
operands_of Call src = if src == 0 then Number ∷ [] else JumpTarget ∷ []
operands_of CallRegister src = RegisterNumber ∷ []
operands_of Exit src = []
operands_of (Load size) src = Destination ∷ SourcePlace ∷ []
operands_of (Store size Immediate) src = DestinationPlace ∷ Number ∷ []
operands_of (Store size Register) src = DestinationPlace ∷ Source ∷ []
operands_of LoadWide src = Destination ∷ Number ∷ []

-- ---- kinds

-- `lddw`, the only instruction of two slots
abbrev pub is_wide : OpKind → Bool
is_wide LoadWide = true
is_wide _ = false

-- `call` and `syscall`, which have their target or number in their immediate
abbrev pub is_call : OpKind → Bool
is_call Call = true
is_call _ = false

-- the second operand is a register, where it may be an immediate too
abbrev pub takes_register : OpKind → Bool
takes_register (Binary op width Register) = true
takes_register (JumpIf when Register) = true
takes_register _ = false

abbrev pub with_register : OpKind → OpKind
with_register (Binary op width second) = Binary op width Register
with_register (JumpIf when second) = JumpIf when Register
with_register kind = kind

abbrev pub with_immediate : OpKind → OpKind
with_immediate (Binary op width second) = Binary op width Immediate
with_immediate (JumpIf when second) = JumpIf when Immediate
with_immediate kind = kind

-- ---- from a line to an instruction

-- an instruction as it is written: its numbers may be out of range, and its target may be a label
-- that is still to be put in
pub record Draft : Type 0 where
  pub instruction : Instruction
  pub target : Option Text

-- what a row has by itself
abbrev pub start : Row → Draft
start r = record {
  instruction = record {
    kind = r.kind;
    dst = 0;
    src = r.src;
    offset = pos 0;
    imm = r.imm;
  };
  target = None;
}

-- an instruction that leads so many slots on from the next: `call` has this in its immediate, jumps
-- in their offset
abbrev pub leading : ℤ → Instruction → Instruction
leading away i = if is_call i.kind then record i { imm = away } else record i { offset = away }

abbrev pub with_instruction : Draft → Instruction → Draft
with_instruction d i = record d { instruction = i }

abbrev pub with_target : Draft → Target → Draft
with_target d (label name) = record d { target = Some name }
with_target d (offset away) = with_instruction d (leading away d.instruction)

abbrev pub with_number : Text → Instruction → Option Instruction
with_number text i = option_map (λ n. record i { imm = n }) (number_of text)

abbrev pub with_either : Text → Instruction → Option ℕ → Option Instruction
with_either text i (Some source) = Some (record i { kind = with_register i.kind; src = source })
with_either text i None = with_number text i

-- an instruction with the fields that an operand gives it
abbrev pub with_fields : Operand → Text → Instruction → Option Instruction
with_fields Destination text i = option_map (λ n. record i { dst = n }) (register_of text)
with_fields Source text i = option_map (λ n. record i { src = n }) (register_of text)
with_fields RegisterOrNumber text i = with_either text i (register_of text)
with_fields Number text i = with_number text i
with_fields DestinationPlace text i =
    option_map (λ p. record i { dst = p.register; offset = p.offset }) (place_of text)
with_fields SourcePlace text i =
    option_map (λ p. record i { src = p.register; offset = p.offset }) (place_of text)
with_fields RegisterNumber text i = option_map (λ n. record i { imm = pos n }) (register_of text)
with_fields JumpTarget text i = None

-- a draft with one more operand
abbrev pub with_operand : Operand → Text → Draft → Option Draft
with_operand JumpTarget text d = option_map (with_target d) (target_of text)
with_operand o text d = option_map (with_instruction d) (with_fields o text d.instruction)

-- the draft, where no text is left
abbrev pub finished : List Text → Draft → Option Draft
finished [] d = Some d
finished (t ∷ texts) d = None

abbrev pub first_of : List Text → Option Text
first_of [] = None
first_of (text ∷ texts) = Some text

abbrev pub behind_first : List Text → List Text
behind_first [] = []
behind_first (text ∷ texts) = texts

abbrev pub with_operands : List Operand → List Text → Draft → Option Draft
with_operands [] texts d = finished texts d
with_operands (o ∷ os) texts d =
    option_and_then (with_operands os (behind_first texts))
    (option_and_then (λ t. with_operand o t d) (first_of texts))

abbrev pub draft_of : Option Row → List Text → Option Draft
draft_of None texts = None
draft_of (Some r) texts = with_operands (operands_of r.kind r.src) texts (start r)

abbrev pub row_of : Text → Option Row
row_of mnemonic = find (λ r. bytes_eq r.mnemonic mnemonic) rows

-- ---- from an instruction to a line

-- how many slots on from the next an instruction leads
abbrev pub distance : Instruction → ℤ
distance i = if is_call i.kind then i.imm else i.offset

-- the text of an operand of an instruction
abbrev pub operand_text : Instruction → Operand → Text
operand_text i Destination = register_text i.dst
operand_text i Source = register_text i.src
operand_text i RegisterOrNumber =
    if takes_register i.kind then register_text i.src else signed_decimal i.imm
operand_text i Number = signed_decimal i.imm
operand_text i JumpTarget = signed_text (distance i)
operand_text i DestinationPlace = place_text i.dst i.offset
operand_text i SourcePlace = place_text i.src i.offset
operand_text i RegisterNumber = register_text (unsigned_abs i.imm)

-- operands, the first behind this text and each other behind a comma and a space
abbrev pub operands_text : Text → List Text → Text
operands_text before [] = []
operands_text before (t ∷ texts) = before ++ (t ++ operands_text (codes ", ") texts)

-- an instruction as the listing has it, by its row
abbrev pub row_text : Row → Instruction → Text
row_text r i = r.mnemonic ++ operands_text (codes " ") (map (operand_text i) (operands_of r.kind r.src))

-- a row names an instruction: it has its kind, but for a register in place of the immediate, and its
-- source or its bits where it has them by itself
abbrev pub has_own : OpKind → Row → Instruction → Bool
has_own Call r i = r.src == i.src
has_own LittleEndian r i = int_eq r.imm i.imm
has_own BigEndian r i = int_eq r.imm i.imm
has_own _ r i = true

abbrev pub is_row_of : Instruction → Row → Bool
is_row_of i r = (opcode_of r.kind == opcode_of (with_immediate i.kind)) && has_own r.kind r i

-- the rows of a kind, by the source and the immediate that each has by itself
abbrev pub own_of : OpKind → List (ℕ × ℤ)
own_of kind =
    map (λ (r : Row). (r.src, r.imm))
    (filter (λ (r : Row). opcode_of r.kind == opcode_of (with_immediate kind)) rows)

-- what the mnemonics of a kind have by themselves: `le` and `be` a width, and `call` and `syscall`
-- their source; each other kind has one mnemonic
abbrev pub forms_of : OpKind → List (ℕ × ℤ)
forms_of LittleEndian = (0, pos 16) ∷ (0, pos 32) ∷ (0, pos 64) ∷ []
forms_of BigEndian = (0, pos 16) ∷ (0, pos 32) ∷ (0, pos 64) ∷ []
forms_of Call = (1, pos 0) ∷ (0, pos 0) ∷ []
forms_of kind = (0, pos 0) ∷ []

-- the row of an instruction
abbrev pub row_for : Instruction → Option Row
row_for i = find (is_row_of i) rows

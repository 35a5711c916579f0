-- The table of instructions, as this project's profile of sBPF has it (RFC 9669).
use Rattle.std.specs.Prelude.{ℕ, ◌%◌, ◌==◌, List, [], ◌∷◌, ◌++◌, map, Option, Some, None, if◌then◌else◌}
use Rattle.std.specs.List.{flat_map}
use Rattle.sbpf_isa.specs.declared.rows.Operation.{Operation}
use Rattle.sbpf_isa.specs.declared.rows.Operation.TheVariants.{Add, Sub, Mul, Div, Or, And, Lsh, Rsh, Mod, Xor, Mov, Arsh}
use Rattle.sbpf_isa.specs.declared.rows.Width.{Width}
use Rattle.sbpf_isa.specs.declared.rows.Width.TheVariants.{Bits64, Bits32}
use Rattle.sbpf_isa.specs.declared.rows.Operand.{Operand}
use Rattle.sbpf_isa.specs.declared.rows.Operand.TheVariants.{Immediate, Register}
use Rattle.sbpf_isa.specs.declared.rows.Condition.{Condition}
use Rattle.sbpf_isa.specs.declared.rows.Condition.TheVariants.{Equal, NotEqual, Greater, GreaterOrEqual, Less, LessOrEqual, Set, SignedGreater, SignedGreaterOrEqual, SignedLess, SignedLessOrEqual}
use Rattle.sbpf_isa.specs.declared.rows.Size.{Size}
use Rattle.sbpf_isa.specs.declared.rows.Size.TheVariants.{Four, Two, One, Eight}
use Rattle.sbpf_isa.specs.declared.rows.OpKind.{OpKind}
use Rattle.sbpf_isa.specs.declared.rows.OpKind.TheVariants.{Binary, Negate, LittleEndian, BigEndian, Jump, JumpIf, Call, CallRegister, Exit, Load, Store, LoadWide}

-- the opcodes of an operation: class 7 with immediate and register, class 4 with immediate and
-- register
abbrev pub four : ℕ → ℕ → ℕ → ℕ → Width → Operand → ℕ
four a b c d Bits64 Immediate = a
four a b c d Bits64 Register = b
four a b c d Bits32 Immediate = c
four a b c d Bits32 Register = d

abbrev pub operation : Operation → Width → Operand → ℕ
operation Add = four 0x07 0x0f 0x04 0x0c
operation Sub = four 0x17 0x1f 0x14 0x1c
operation Mul = four 0x27 0x2f 0x24 0x2c
operation Div = four 0x37 0x3f 0x34 0x3c
operation Or = four 0x47 0x4f 0x44 0x4c
operation And = four 0x57 0x5f 0x54 0x5c
operation Lsh = four 0x67 0x6f 0x64 0x6c
operation Rsh = four 0x77 0x7f 0x74 0x7c
operation Mod = four 0x97 0x9f 0x94 0x9c
operation Xor = four 0xa7 0xaf 0xa4 0xac
operation Mov = four 0xb7 0xbf 0xb4 0xbc
operation Arsh = four 0xc7 0xcf 0xc4 0xcc

abbrev pub negation : Width → ℕ
negation Bits64 = 0x87
negation Bits32 = 0x84

-- the opcodes of a jump: with immediate and register
abbrev pub two : ℕ → ℕ → Operand → ℕ
two a b Immediate = a
two a b Register = b

abbrev pub jump : Condition → Operand → ℕ
jump Equal = two 0x15 0x1d
jump NotEqual = two 0x55 0x5d
jump Greater = two 0x25 0x2d
jump GreaterOrEqual = two 0x35 0x3d
jump Less = two 0xa5 0xad
jump LessOrEqual = two 0xb5 0xbd
jump Set = two 0x45 0x4d
jump SignedGreater = two 0x65 0x6d
jump SignedGreaterOrEqual = two 0x75 0x7d
jump SignedLess = two 0xc5 0xcd
jump SignedLessOrEqual = two 0xd5 0xdd

abbrev pub load : Size → ℕ
load Four = 0x61
load Two = 0x69
load One = 0x71
load Eight = 0x79

-- the opcodes of a store: of the immediate and of a register
abbrev pub store : Size → Operand → ℕ
store Four = two 0x62 0x63
store Two = two 0x6a 0x6b
store One = two 0x72 0x73
store Eight = two 0x7a 0x7b

-- the instructions that others ask for by their opcodes
abbrev pub load_wide : ℕ
load_wide = 0x18

abbrev pub jump_always : ℕ
jump_always = 0x05

abbrev pub exit : ℕ
exit = 0x95

-- the table: the opcode of each instruction
abbrev pub number : OpKind → ℕ
number (Binary op width operand) = operation op width operand
number (Negate width) = negation width
number LittleEndian = 0xd4
number BigEndian = 0xdc
number Jump = jump_always
number (JumpIf when operand) = jump when operand
number Call = 0x85
number CallRegister = 0x8d
number Exit = exit
number (Load size) = load size
number (Store size operand) = store size operand
number LoadWide = load_wide

unfoldable pub opcode_of : OpKind → ℕ
opcode_of = number

-- all kinds of instructions
abbrev pub operations : List Operation
operations =
    Add ∷ Sub ∷ Mul ∷ Div ∷ Or ∷ And ∷ Lsh ∷ Rsh ∷ Mod ∷ Xor ∷ Mov ∷ Arsh ∷ []

abbrev pub conditions : List Condition
conditions =
    Equal ∷ NotEqual ∷ Greater ∷ GreaterOrEqual ∷ Less ∷ LessOrEqual ∷ Set ∷ SignedGreater
    ∷ SignedGreaterOrEqual ∷ SignedLess ∷ SignedLessOrEqual ∷ []

abbrev pub sizes : List Size
sizes = Four ∷ Two ∷ One ∷ Eight ∷ []

abbrev pub widths : List Width
widths = Bits64 ∷ Bits32 ∷ []

abbrev pub operands : List Operand
operands = Immediate ∷ Register ∷ []

abbrev pub kinds : List OpKind
kinds =
    flat_map (λ op. flat_map (λ width. map (Binary op width) operands) widths) operations
    ++ map Negate widths ++ flat_map (λ when. map (JumpIf when) operands) conditions
    ++ map Load sizes ++ flat_map (λ size. map (Store size) operands) sizes
    ++ LittleEndian ∷ BigEndian ∷ Jump ∷ Call ∷ CallRegister ∷ Exit ∷ LoadWide ∷ []

-- a row: an opcode, and what its instruction is
pub record Row : Type 0 where
  pub opcode : ℕ
  pub kind : OpKind

abbrev pub row : OpKind → Row
row k = record { opcode = number k; kind = k }

abbrev pub rows : List Row
rows = map row kinds

-- the rows of a class, which is the low three bits of an opcode
abbrev pub of_class : ℕ → List Row → List Row
of_class class [] = []
of_class class (r ∷ rs) =
    if r.opcode % 8 == class then r ∷ of_class class rs else of_class class rs

-- what the first row with the opcode says
abbrev pub kind_in : ℕ → List Row → Option OpKind
kind_in n [] = None
kind_in n (r ∷ rs) = if n == r.opcode then Some r.kind else kind_in n rs

-- what the instruction of an opcode is, or None where the table has no row for it
unfoldable pub kind_at : ℕ → Option OpKind
kind_at n = kind_in n rows

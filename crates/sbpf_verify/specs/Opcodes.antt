-- The opcodes, and what an instruction of each is.
use Rattle.sbpf_isa.specs.declared.rows.Operation.TheVariants.{Add, Sub, Mul, Div, Or, And, Lsh, Rsh, Mod, Xor, Mov, Arsh}
use Rattle.sbpf_isa.specs.declared.rows.Width.TheVariants.{Bits64, Bits32}
use Rattle.sbpf_isa.specs.declared.rows.Operand.TheVariants.{Immediate, Register}
use Rattle.sbpf_isa.specs.declared.rows.Condition.TheVariants.{Equal, NotEqual, Greater, GreaterOrEqual, Less, LessOrEqual, Set, SignedGreater, SignedGreaterOrEqual, SignedLess, SignedLessOrEqual}
use Rattle.sbpf_isa.specs.declared.rows.Size.TheVariants.{Four, Two, One, Eight}
use Rattle.sbpf_isa.specs.declared.rows.OpKind.{OpKind}
use Rattle.sbpf_isa.specs.declared.rows.OpKind.TheVariants.{Binary, Negate, LittleEndian, BigEndian, Jump, JumpIf, Call, CallRegister, Exit, Load, Store, LoadWide}
use Rattle.sbpf_verify.specs.declared.opcode.Opcode.{Opcode}
use Rattle.sbpf_verify.specs.declared.opcode.Opcode.TheVariants.{Add64Immediate, Add64Register, Add32Immediate, Add32Register, Sub64Immediate, Sub64Register, Sub32Immediate, Sub32Register, Mul64Immediate, Mul64Register, Mul32Immediate, Mul32Register, Div64Immediate, Div64Register, Div32Immediate, Div32Register, Or64Immediate, Or64Register, Or32Immediate, Or32Register, And64Immediate, And64Register, And32Immediate, And32Register, Lsh64Immediate, Lsh64Register, Lsh32Immediate, Lsh32Register, Rsh64Immediate, Rsh64Register, Rsh32Immediate, Rsh32Register, Negate64, Negate32, Mod64Immediate, Mod64Register, Mod32Immediate, Mod32Register, Xor64Immediate, Xor64Register, Xor32Immediate, Xor32Register, Mov64Immediate, Mov64Register, Mov32Immediate, Mov32Register, Arsh64Immediate, Arsh64Register, Arsh32Immediate, Arsh32Register, LittleEndian as LittleEndianOpcode, BigEndian as BigEndianOpcode, Jump as JumpOpcode, JumpIfEqualImmediate, JumpIfEqualRegister, JumpIfNotEqualImmediate, JumpIfNotEqualRegister, JumpIfGreaterImmediate, JumpIfGreaterRegister, JumpIfGreaterOrEqualImmediate, JumpIfGreaterOrEqualRegister, JumpIfLessImmediate, JumpIfLessRegister, JumpIfLessOrEqualImmediate, JumpIfLessOrEqualRegister, JumpIfSetImmediate, JumpIfSetRegister, JumpIfSignedGreaterImmediate, JumpIfSignedGreaterRegister, JumpIfSignedGreaterOrEqualImmediate, JumpIfSignedGreaterOrEqualRegister, JumpIfSignedLessImmediate, JumpIfSignedLessRegister, JumpIfSignedLessOrEqualImmediate, JumpIfSignedLessOrEqualRegister, Call as CallOpcode, CallRegister as CallRegisterOpcode, Exit as ExitOpcode, LoadFour, StoreFourImmediate, StoreFourRegister, LoadTwo, StoreTwoImmediate, StoreTwoRegister, LoadOne, StoreOneImmediate, StoreOneRegister, LoadEight, StoreEightImmediate, StoreEightRegister, LoadWide as LoadWideOpcode}

-- what the instruction of an opcode is, which its name says
abbrev pub meaning : Opcode → OpKind
meaning Add64Immediate = Binary Add Bits64 Immediate
meaning Add64Register = Binary Add Bits64 Register
meaning Add32Immediate = Binary Add Bits32 Immediate
meaning Add32Register = Binary Add Bits32 Register
meaning Sub64Immediate = Binary Sub Bits64 Immediate
meaning Sub64Register = Binary Sub Bits64 Register
meaning Sub32Immediate = Binary Sub Bits32 Immediate
meaning Sub32Register = Binary Sub Bits32 Register
meaning Mul64Immediate = Binary Mul Bits64 Immediate
meaning Mul64Register = Binary Mul Bits64 Register
meaning Mul32Immediate = Binary Mul Bits32 Immediate
meaning Mul32Register = Binary Mul Bits32 Register
meaning Div64Immediate = Binary Div Bits64 Immediate
meaning Div64Register = Binary Div Bits64 Register
meaning Div32Immediate = Binary Div Bits32 Immediate
meaning Div32Register = Binary Div Bits32 Register
meaning Or64Immediate = Binary Or Bits64 Immediate
meaning Or64Register = Binary Or Bits64 Register
meaning Or32Immediate = Binary Or Bits32 Immediate
meaning Or32Register = Binary Or Bits32 Register
meaning And64Immediate = Binary And Bits64 Immediate
meaning And64Register = Binary And Bits64 Register
meaning And32Immediate = Binary And Bits32 Immediate
meaning And32Register = Binary And Bits32 Register
meaning Lsh64Immediate = Binary Lsh Bits64 Immediate
meaning Lsh64Register = Binary Lsh Bits64 Register
meaning Lsh32Immediate = Binary Lsh Bits32 Immediate
meaning Lsh32Register = Binary Lsh Bits32 Register
meaning Rsh64Immediate = Binary Rsh Bits64 Immediate
meaning Rsh64Register = Binary Rsh Bits64 Register
meaning Rsh32Immediate = Binary Rsh Bits32 Immediate
meaning Rsh32Register = Binary Rsh Bits32 Register
meaning Negate64 = Negate Bits64
meaning Negate32 = Negate Bits32
meaning Mod64Immediate = Binary Mod Bits64 Immediate
meaning Mod64Register = Binary Mod Bits64 Register
meaning Mod32Immediate = Binary Mod Bits32 Immediate
meaning Mod32Register = Binary Mod Bits32 Register
meaning Xor64Immediate = Binary Xor Bits64 Immediate
meaning Xor64Register = Binary Xor Bits64 Register
meaning Xor32Immediate = Binary Xor Bits32 Immediate
meaning Xor32Register = Binary Xor Bits32 Register
meaning Mov64Immediate = Binary Mov Bits64 Immediate
meaning Mov64Register = Binary Mov Bits64 Register
meaning Mov32Immediate = Binary Mov Bits32 Immediate
meaning Mov32Register = Binary Mov Bits32 Register
meaning Arsh64Immediate = Binary Arsh Bits64 Immediate
meaning Arsh64Register = Binary Arsh Bits64 Register
meaning Arsh32Immediate = Binary Arsh Bits32 Immediate
meaning Arsh32Register = Binary Arsh Bits32 Register
meaning LittleEndianOpcode = LittleEndian
meaning BigEndianOpcode = BigEndian
meaning JumpOpcode = Jump
meaning JumpIfEqualImmediate = JumpIf Equal Immediate
meaning JumpIfEqualRegister = JumpIf Equal Register
meaning JumpIfNotEqualImmediate = JumpIf NotEqual Immediate
meaning JumpIfNotEqualRegister = JumpIf NotEqual Register
meaning JumpIfGreaterImmediate = JumpIf Greater Immediate
meaning JumpIfGreaterRegister = JumpIf Greater Register
meaning JumpIfGreaterOrEqualImmediate = JumpIf GreaterOrEqual Immediate
meaning JumpIfGreaterOrEqualRegister = JumpIf GreaterOrEqual Register
meaning JumpIfLessImmediate = JumpIf Less Immediate
meaning JumpIfLessRegister = JumpIf Less Register
meaning JumpIfLessOrEqualImmediate = JumpIf LessOrEqual Immediate
meaning JumpIfLessOrEqualRegister = JumpIf LessOrEqual Register
meaning JumpIfSetImmediate = JumpIf Set Immediate
meaning JumpIfSetRegister = JumpIf Set Register
meaning JumpIfSignedGreaterImmediate = JumpIf SignedGreater Immediate
meaning JumpIfSignedGreaterRegister = JumpIf SignedGreater Register
meaning JumpIfSignedGreaterOrEqualImmediate = JumpIf SignedGreaterOrEqual Immediate
meaning JumpIfSignedGreaterOrEqualRegister = JumpIf SignedGreaterOrEqual Register
meaning JumpIfSignedLessImmediate = JumpIf SignedLess Immediate
meaning JumpIfSignedLessRegister = JumpIf SignedLess Register
meaning JumpIfSignedLessOrEqualImmediate = JumpIf SignedLessOrEqual Immediate
meaning JumpIfSignedLessOrEqualRegister = JumpIf SignedLessOrEqual Register
meaning CallOpcode = Call
meaning CallRegisterOpcode = CallRegister
meaning ExitOpcode = Exit
meaning LoadFour = Load Four
meaning StoreFourImmediate = Store Four Immediate
meaning StoreFourRegister = Store Four Register
meaning LoadTwo = Load Two
meaning StoreTwoImmediate = Store Two Immediate
meaning StoreTwoRegister = Store Two Register
meaning LoadOne = Load One
meaning StoreOneImmediate = Store One Immediate
meaning StoreOneRegister = Store One Register
meaning LoadEight = Load Eight
meaning StoreEightImmediate = Store Eight Immediate
meaning StoreEightRegister = Store Eight Register
meaning LoadWideOpcode = LoadWide

-- The line of an instruction that the verifier lets pass is read as that instruction.
use Rattle.std.proofs.Common.{◌≡◌, ◌==◌, ℕ, Bool, true, false, List, [], ◌∷◌, Some, None, refl, sym, ap, subst, ◌∙◌, rules}
use Rattle.std.specs.Prelude.{find}
use Rattle.std.specs.List.{AllByRecursion, list_any}
use Rattle.std.proofs.lemmas.Bool.{and_parts, eqb-true}
use Rattle.std.proofs.lemmas.Bool.Decides.{Decides-int_eq}
use Rattle.sbpf_isa.specs.declared.rows.Operand.TheVariants.{Immediate}
use Rattle.sbpf_isa.specs.declared.rows.OpKind.{OpKind}
use Rattle.sbpf_isa.specs.declared.rows.OpKind.TheVariants.{LittleEndian, BigEndian, Call, CallRegister, Store}
use Rattle.sbpf_isa.specs.Rows.{opcode_of}
use Rattle.sbpf_isa.proofs.Opcodes.{same_kind}
use Rattle.sbpf_asm.specs.declared.instruction.Instruction.{Instruction}
use Rattle.sbpf_asm.specs.declared.row.Operand.TheVariants.{RegisterNumber}
use Rattle.sbpf_asm.specs.Words.{Text}
use Rattle.sbpf_asm.specs.Rows.{Row, rows, row_text, is_row_of, has_own, operands_of, with_immediate}
use Rattle.sbpf_asm.specs.Lines.{instruction, item_of}
use Rattle.sbpf_asm.specs.Assembly.{is_text}
use Rattle.sbpf_asm.specs.Listing.{instruction_text}
use Rattle.sbpf_asm.proofs.Operands.{IsWide, IsNumbered}
use Rattle.sbpf_asm.proofs.ListedLines.{IsRow, IsBare, all_rows, row_back, row_is_text, written}
use Rattle.sbpf_asm.proofs.Cover.{Fit, HasOwn, written_back, written_of}

-- a row that passes a test, with what holds of all rows
record Found (P : Row → Type 0) (test : Row → Bool) (rs : List Row) : Type 0 where
  row : Row
  is : find test rs ≡ Some row
  passes : test row ≡ true
  holds : P row

find_row : (P : Row → Type 0) (test : Row → Bool) (rs : List Row) → AllByRecursion P rs → list_any test rs ≡ true → Found P test rs
find_row P test [] all h = absurd (cc)
find_row P test (r ∷ rs) all h = go (find_row P test rs all.1) (test r) refl
  where
    go : (list_any test rs ≡ true → Found P test rs) → (b : Bool) → test r ≡ b → Found P test (r ∷ rs)
    go rest true e = record { row = r; is = rw e refl; passes = e; holds = all.0 }
    go rest false e =
        let f = rest (rw e at h) in
        record { row = f.row; is = rw e f.is; passes = f.passes; holds = f.holds }

-- the immediate of `callx` is a register's number
numbered : (k : OpKind) (src : ℕ) (i : Instruction) → (k ≡ CallRegister → IsNumbered i RegisterNumber) → AllByRecursion (IsNumbered i) (operands_of (with_immediate k) src)
numbered Call src i h = go (src == 0) refl
  where
    go : (b : Bool) → (src == 0) ≡ b → AllByRecursion (IsNumbered i) (operands_of Call src)
    go true e = rw e (tt, tt)
    go false e = rw e (tt, tt)
numbered CallRegister src i h = (h refl, tt)
numbered (Store size Immediate) src i h = (tt, (tt, tt))
numbered k src i h = search rules

-- what a row has by itself
own : (k : OpKind) (r : Row) (i : Instruction) → r.kind ≡ with_immediate k → has_own r.kind r i ≡ true → HasOwn k r.src r.imm i.src i.imm
own Call r i e h = eqb-true r.src i.src (rw e at h)
own LittleEndian r i e h = (Decides-int_eq r.imm i.imm).0 (rw e at h)
own BigEndian r i e h = (Decides-int_eq r.imm i.imm).0 (rw e at h)
own k r i e h = tt

-- the row of an instruction writes all of it
row_writes : (r : Row) (i : Instruction) → IsBare r.kind r.src r.imm → is_row_of i r ≡ true → Fit i → (written r i ≡ i) × (r.kind ≡ with_immediate i.kind)
row_writes r i bare h fit =
    let parts = and_parts (opcode_of r.kind == opcode_of (with_immediate i.kind)) _ h in
    let kind : r.kind ≡ with_immediate i.kind = same_kind r.kind (with_immediate i.kind) (eqb-true _ _ parts.0) in
    let own_fields = own i.kind r i kind parts.1 in
    let there : IsBare (with_immediate i.kind) r.src r.imm = subst (λ (k : OpKind). IsBare k r.src r.imm) kind bare in
    (ap (λ (k : OpKind). written_of k r.src r.imm i) kind ∙ written_back i.kind i.dst i.src i.offset i.imm r.src r.imm fit.unused there own_fields, kind)

-- a line is text, and is read as an instruction
pub record Reads (line : Text) (i : Instruction) : Type 0 where
  pub text : is_text line ≡ true
  pub item : item_of line ≡ Some (instruction (record { instruction = i; target = None }))

reads_row : (i : Instruction) → IsWide i → Fit i → (i.kind ≡ CallRegister → IsNumbered i RegisterNumber) → (f : Found IsRow (is_row_of i) rows) → Reads (row_text f.row i) i
reads_row i w fit n f =
    let r = f.row in
    let writes = row_writes r i f.holds.bare f.passes fit in
    let operands = subst (λ (k : OpKind). AllByRecursion (IsNumbered i) (operands_of k r.src)) (sym writes.1) (numbered i.kind r.src i n) in
    record {
      text = row_is_text r i f.holds w;
      item = row_back r i f.holds w operands ∙ ap (λ (j : Instruction). Some (instruction (record { instruction = j; target = None }))) writes.0;
    }

-- the line of an instruction that has a row is read as it
pub instruction_back : (i : Instruction) → IsWide i → Fit i → (i.kind ≡ CallRegister → IsNumbered i RegisterNumber) → Reads (instruction_text i) i
instruction_back i w fit n =
    let f = find_row IsRow (is_row_of i) rows all_rows fit.has_row in
    rw f.is (reads_row i w fit n f)

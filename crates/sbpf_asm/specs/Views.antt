-- The code's values as those that definitions speak of.
use Rattle.std.specs.Prelude.{ℕ, Bool, List, [], Option, Some, None, option_map, map}
use Rattle.std.specs.Borrow.{Bor}
use Rattle.hex.specs.Hex.{decode_of}
use Rattle.std.specs.List.{slice_split}
use Rattle.sbpf_asm.specs.Words.{Text, Cut, trim, is_blank, is_comma, is_semicolon, is_line_feed, is_sign}
use Rattle.sbpf_asm.specs.Operands.{Target, label as named, offset}
use Rattle.sbpf_asm.specs.Rows.{Row, Draft}
use Rattle.sbpf_asm.specs.Lines.{Item, nothing, label, instruction, decoded}
use Rattle.sbpf_asm.specs.declared.piece.Mark.{Mark}
use Rattle.sbpf_asm.specs.declared.piece.Mark.TheVariants.{Blank, Comma, Semicolon, LineFeed, Sign}
use Rattle.sbpf_asm.specs.declared.piece.Cut.{Cut as Parts}
use Rattle.sbpf_asm.specs.declared.operand.Target.{Target as TargetSlice}
use Rattle.sbpf_asm.specs.declared.operand.Target.TheVariants.{Label as LabelTarget, Offset as OffsetTarget}
use Rattle.sbpf_asm.specs.declared.row.Row.{Row as TableRow}
use Rattle.sbpf_asm.specs.declared.draft.Draft.{Draft as DraftSlices}
use Rattle.sbpf_asm.specs.Assembly.{Placed, Label as PlacedLabel, Source as Sourced}
use Rattle.sbpf_asm.specs.declared.source.Placed.{Placed as PlacedSlices}
use Rattle.sbpf_asm.specs.declared.source.Source.{Source as SourceSlices}
use Rattle.sbpf_asm.specs.declared.line.Item.{Item as ItemSlices}
use Rattle.sbpf_asm.specs.declared.line.Item.TheVariants.{Nothing, Label, Constants, Instruction as InstructionItem}

abbrev pub is_mark : Mark → ℕ → Bool
is_mark Blank = is_blank
is_mark Comma = is_comma
is_mark Semicolon = is_semicolon
is_mark LineFeed = is_line_feed
is_mark Sign = is_sign

abbrev pub rest_view : Option (ℕ × Bor (List ℕ)) → Option (ℕ × Text)
rest_view rest = option_map (λ (p : ℕ × Bor (List ℕ)). (p.0, p.1.now)) rest

abbrev pub cut_view : Parts → Cut
cut_view c = record { front = c.front.now; rest = rest_view c.rest }

-- what follows the byte that a text is cut at
abbrev pub behind : Option (ℕ × Text) → Option Text
behind rest = option_map (λ (p : ℕ × Text). p.1) rest

abbrev pub target_view : TargetSlice → Target
target_view (LabelTarget name) = named name.now
target_view (OffsetTarget away) = offset away

-- the operands that are left to be read, where a text is left
abbrev pub operands_left : Option Text → List Text
operands_left None = []
operands_left (Some text) = map trim (slice_split is_comma text)

abbrev pub row_view : TableRow → Row
row_view r = record { mnemonic = r.mnemonic.now; kind = r.kind; src = r.src; imm = r.imm }

abbrev pub draft_view : DraftSlices → Draft
draft_view d =
    record { instruction = d.instruction; target = option_map (λ name. name.now) d.target }

-- digits of an odd number stand for nothing
abbrev pub item_view : ItemSlices → Option Item
item_view Nothing = Some nothing
item_view (Label name) = Some (label name.now)
item_view (Constants digits) = decoded (decode_of digits.now)
item_view (InstructionItem draft) = Some (instruction (draft_view draft))

abbrev pub placed_view : PlacedSlices → Placed
placed_view p = record { line = p.line; place = p.place; draft = draft_view p.draft }

abbrev pub label_view : Bor (List ℕ) × ℕ → PlacedLabel
label_view e = record { name = e.0.now; place = e.1 }

abbrev pub labels_view : List (Bor (List ℕ) × ℕ) → List PlacedLabel
labels_view entries = map label_view entries

abbrev pub source_view : SourceSlices → Sourced
source_view s = record {
  instructions = map placed_view s.instructions;
  labels = labels_view s.labels.entries;
  constants = s.constants;
  slots = s.slots;
}

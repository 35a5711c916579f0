-- An assembled text as a relation of its lines to what they stand for.
use Rattle.std.specs.Prelude.{◌≡◌, ℕ, ◌+◌, true, false, List, [], ◌∷◌, ◌++◌, None, Ok}
use Rattle.sbpf_verify.specs.Images.{image_bytes}
use Rattle.sbpf_verify.specs.Verified.{unfit}
use Rattle.sbpf_asm.specs.Words.{Text}
use Rattle.sbpf_asm.specs.Lines.{Item, label, constants, instruction, Line, lines_of}
use Rattle.sbpf_asm.specs.Assembly.{Label, Placed, Source, is_text, is_in_range, is_too_long, slots_taken, place_in, slots_after}

-- each line is text, and stands for its item
abbrev pub StandFor : List Text → List Item → Type 0
StandFor [] [] = Unit {0}
StandFor (line ∷ lines) (item ∷ items) =
    (is_text line ≡ true) × (Line line item × StandFor lines items)
StandFor [] (item ∷ items) = ⊥
StandFor (line ∷ lines) [] = ⊥

-- the slots of items
abbrev pub slots_in : List Item → ℕ
slots_in [] = 0
slots_in (instruction d ∷ items) = slots_taken d.instruction + slots_in items
slots_in (_ ∷ items) = slots_in items

-- the bytes of their constants
abbrev pub constants_in : List Item → List ℕ
constants_in [] = []
constants_in (constants bytes ∷ items) = bytes ++ constants_in items
constants_in (_ ∷ items) = constants_in items

-- their labels, each with the slots that stand before it, of which there are so many before the
-- first item
abbrev pub labels_in : ℕ → List Item → List Label
labels_in place [] = []
labels_in place (label name ∷ items) = record { name = name; place = place } ∷ labels_in place items
labels_in place (instruction d ∷ items) = labels_in (place + slots_taken d.instruction) items
labels_in place (_ ∷ items) = labels_in place items

-- their instructions, each with the number of its line, and with the slots that stand before it
abbrev pub instructions_in : ℕ → ℕ → List Item → List Placed
instructions_in line place [] = []
instructions_in line place (instruction d ∷ items) =
    record { line = line; place = place; draft = d }
    ∷ instructions_in (line + 1) (place + slots_taken d.instruction) items
instructions_in line place (_ ∷ items) = instructions_in (line + 1) place items

-- no label has the name of one before it, and all numbers are in their ranges
abbrev pub AreAllowed : List Label → ℕ → List Item → Type 0
AreAllowed before place [] = Unit {0}
AreAllowed before place (label name ∷ items) =
    (place_in name before ≡ None)
    × AreAllowed (before ++ (record { name = name; place = place }) ∷ []) place items
AreAllowed before place (instruction d ∷ items) =
    (is_in_range d.instruction ≡ true) × AreAllowed before (place + slots_taken d.instruction) items
AreAllowed before place (_ ∷ items) = AreAllowed before place items

-- what items have
abbrev pub source_of : List Item → Source
source_of items =
    record {
      instructions = instructions_in 1 0 items;
      labels = labels_in 0 items;
      constants = constants_in items;
      slots = slots_in items;
    }

-- the lines of a text stand for items, and the image has their slots, with labels put in, and their
-- constants
pub record IsAssembly (text : Text) (image : List ℕ) : Type 0 where
  pub items : List Item
  pub lines : StandFor (lines_of text) items
  pub allowed : AreAllowed [] 0 items
  pub short : is_too_long (source_of items) ≡ false
  pub slots : List ℕ
  pub linked : slots_after (labels_in 0 items) [] (instructions_in 1 0 items) ≡ Ok slots
  pub verified : unfit slots ≡ None
  pub image_is : image ≡ image_bytes (record { text = slots; constants = constants_in items })

-- The lines of a text that is assembled stand for items.
use Rattle.std.proofs.Common.{◌≡◌, ℕ, ◌+◌, Bool, true, false, List, [], ◌∷◌, ◌++◌, Option, Some, None, Result, Ok, Err, refl, sym, ap, ◌∙◌, cond, arith, append_assoc, append-nil, add-zero, zero-add, subst}
use Rattle.spec_base.proofs.Binding.{bind_ok, ok_if_true, ok_same}
use Rattle.sbpf_verify.specs.Images.{image_bytes}
use Rattle.sbpf_verify.specs.Verified.{unfit}
use Rattle.sbpf_verify.specs.declared.fault.VerifyFault.{VerifyFault}
use Rattle.sbpf_asm.specs.declared.fault.AsmFault.{AsmFault}
use Rattle.sbpf_asm.specs.declared.fault.AsmFault.TheVariants.{Range}
use Rattle.sbpf_asm.specs.Words.{Text}
use Rattle.sbpf_asm.specs.Lines.{Item, nothing, label, constants, instruction, item_of, lines_of}
use Rattle.sbpf_asm.specs.Assembly.{Label, Placed, Source, empty, is_text, is_in_range, is_too_long, slots_taken, place_in, slots_after, with_draft, with_item, with_label, with_line, with_lines, if_fit, image_of, verified_image, assembled}
use Rattle.sbpf_asm.specs.Texts.{StandFor, slots_in, constants_in, labels_in, instructions_in, AreAllowed, source_of, IsAssembly}

-- a source that has the items beside what it had
abbrev gathered : ℕ → Source → List Item → Source
gathered n s items = record {
  instructions = s.instructions ++ instructions_in n s.slots items;
  labels = s.labels ++ labels_in s.slots items;
  constants = s.constants ++ constants_in items;
  slots = s.slots + slots_in items;
}

same_source : (a b : List Placed) (c d : List Label) (e f : List ℕ) (g h : ℕ) → a ≡ b → c ≡ d → e ≡ f → g ≡ h
    → (let x : Source = record { instructions = a; labels = c; constants = e; slots = g } in x) ≡ (let y : Source = record { instructions = b; labels = d; constants = f; slots = h } in y)
same_source a b c d e f g h p q r s = λ j. record { instructions = p j; labels = q j; constants = r j; slots = s j }

-- what lines from a number on stand for, where they take one source to another
record Items (n : ℕ) (s t : Source) (lines : List Text) : Type 0 where
  items : List Item
  lines_are : StandFor lines items
  allowed : AreAllowed s.labels s.slots items
  source_is : t ≡ gathered n s items

-- what one item does to a source
abbrev after : ℕ → Source → Item → Source
after n s nothing = s
after n s (label name) = record s { labels = s.labels ++ (record { name = name; place = s.slots }) ∷ [] }
after n s (constants bytes) = record s { constants = s.constants ++ bytes }
after n s (instruction d) = with_draft n s d

abbrev IsAllowed : Source → Item → Type 0
IsAllowed s (label name) = place_in name s.labels ≡ None
IsAllowed s (instruction d) = is_in_range d.instruction ≡ true
IsAllowed s _ = Unit {0}

-- a line that is read is text, and stands for an item
record Item_of (n : ℕ) (s t : Source) (line : Text) : Type 0 where
  item : Item
  is_line : is_text line ≡ true
  stands : item_of line ≡ Some item
  allowed : IsAllowed s item
  source_is : t ≡ after n s item

new_name : (n : ℕ) (s t : Source) (name : Text) (o : Option ℕ) → with_label n s name o ≡ Ok t → (o ≡ None) × (t ≡ after n s (label name))
new_name n s t name None h = (refl, sym (ok_same _ t h))
new_name n s t name (Some place) h = absurd (cc)

item_read : (n : ℕ) (s t : Source) (o : Option Item) → with_item n s o ≡ Ok t → (item : Item) × ((o ≡ Some item) × (IsAllowed s item × (t ≡ after n s item)))
item_read n s t None h = absurd (cc)
item_read n s t (Some nothing) h = (nothing, (refl, (tt, sym (ok_same s t h))))
item_read n s t (Some (label name)) h = let both = new_name n s t name (place_in name s.labels) h in (label name, (refl, (both.0, both.1)))
item_read n s t (Some (constants bytes)) h = (constants bytes, (refl, (tt, sym (ok_same _ t h))))
item_read n s t (Some (instruction d)) h = let both = ok_if_true (is_in_range d.instruction) (Range n) (with_draft n s d) t h in (instruction d, (refl, (both.0, sym both.1)))

line_read : (n : ℕ) (s t : Source) (line : Text) → with_line n s line ≡ Ok t → Item_of n s t line
line_read n s t line h = go (is_text line) refl
  where
    go : (b : Bool) → is_text line ≡ b → Item_of n s t line
    go true e =
        let read = item_read n s t (item_of line) (rw e at h) in
        record { item = read.0; is_line = e; stands = read.1.0; allowed = read.1.1.0; source_is = read.1.1.1 }
    go false e = let k = rw e at h in absurd (cc)

-- an item, and then the others
gathered_more : (n : ℕ) (s : Source) (item : Item) (items : List Item) → gathered (n + 1) (after n s item) items ≡ gathered n s (item ∷ items)
gathered_more n s nothing items = refl
gathered_more n s (label name) items = same_source _ _ _ _ _ _ _ _ refl (append_assoc s.labels ((record { name = name; place = s.slots }) ∷ []) (labels_in s.slots items)) refl refl
gathered_more n s (constants bytes) items = same_source _ _ _ _ _ _ _ _ refl refl (append_assoc s.constants bytes (constants_in items)) refl
gathered_more n s (instruction d) items = same_source _ _ _ _ _ _ _ _
    (append_assoc s.instructions ((record { line = n; place = s.slots; draft = d }) ∷ [])
    (instructions_in (n + 1) (s.slots + slots_taken d.instruction) items)) refl refl (omega arith)

allowed_more : (n : ℕ) (s : Source) (item : Item) (items : List Item) → IsAllowed s item → (let t = after n s item in AreAllowed t.labels t.slots items) → AreAllowed s.labels s.slots (item ∷ items)
allowed_more n s nothing items a rest = rest
allowed_more n s (label name) items a rest = (a, rest)
allowed_more n s (constants bytes) items a rest = rest
allowed_more n s (instruction d) items a rest = (a, rest)

moved : (n : ℕ) (s u : Source) (item : Item) (items : List Item) → u ≡ after n s item → AreAllowed u.labels u.slots items → (let t = after n s item in AreAllowed t.labels t.slots items)
moved n s u item items e h = let P : Source → Type 0 = λ v. AreAllowed v.labels v.slots items in subst P e h

cons : (n : ℕ) (s t u : Source) (line : Text) (lines : List Text) → Item_of n s u line → Items (n + 1) u t lines → Items n s t (line ∷ lines)
cons n s t u line lines one rest = record {
  items = one.item ∷ rest.items;
  lines_are = (one.is_line, (one.stands, rest.lines_are));
  allowed = allowed_more n s one.item rest.items one.allowed (moved n s u one.item rest.items one.source_is rest.allowed);
  source_is = rest.source_is ∙ ap (λ (v : Source). gathered (n + 1) v rest.items) one.source_is ∙ gathered_more n s one.item rest.items;
}

lines_read : (n : ℕ) (s t : Source) (lines : List Text) → with_lines n s lines ≡ Ok t → Items n s t lines
lines_read n s t [] h = record {
  items = [];
  lines_are = tt;
  allowed = tt;
  source_is = sym (ok_same s t h) ∙ sym (same_source _ _ _ _ _ _ _ _ (append-nil s.instructions) (append-nil s.labels) (append-nil s.constants) (add-zero s.slots));
}
lines_read n s t (line ∷ lines) h =
    let bound = bind_ok (with_line n s line) (λ next. with_lines (n + 1) next lines) t h in
    cons n s t bound.0 line lines (line_read n s bound.0 line bound.1) (lines_read (n + 1) bound.0 t lines bound.2)

fit : (o : Option VerifyFault) (made image : List ℕ) → if_fit o made ≡ Ok image → (o ≡ None) × (image ≡ made)
fit None made image h = (refl, sym (ok_same made image h))
fit (Some fault) made image h = absurd (cc)

not_long : (b : Bool) (r : Result (List ℕ) AsmFault) (f : AsmFault) (image : List ℕ) → cond b (Err f) r ≡ Ok image → (b ≡ false) × (r ≡ Ok image)
not_long true r f image h = absurd (cc)
not_long false r f image h = (refl, h)

assembly : (text image : List ℕ) (s : Source) → Items 1 empty s (lines_of text) → image_of s ≡ Ok image → IsAssembly text image
assembly text image s read h =
    let is : s ≡ source_of read.items = read.source_is ∙ same_source _ _ _ _ _ _ _ _ refl refl refl (zero-add (slots_in read.items)) in
    let made : image_of (source_of read.items) ≡ Ok image = ap image_of (sym is) ∙ h in
    let long = not_long (is_too_long (source_of read.items)) _ _ image made in
    let bound = bind_ok (slots_after (labels_in 0 read.items) [] (instructions_in 1 0 read.items)) (λ slots. verified_image slots (constants_in read.items)) image long.1 in
    let verified = fit (unfit bound.0) (image_bytes (record { text = bound.0; constants = constants_in read.items })) image bound.2 in
    record {
      items = read.items;
      lines = read.lines_are;
      allowed = read.allowed;
      short = long.0;
      slots = bound.0;
      linked = bound.1;
      verified = verified.0;
      image_is = verified.1;
    }

-- a text that is assembled has items
pub assembled_items : (text image : List ℕ) → assembled text ≡ Ok image → IsAssembly text image
unfolding assembled
assembled_items text image h =
    let bound = bind_ok (with_lines 1 empty (lines_of text)) image_of image h in
    assembly text image bound.0 (lines_read 1 empty bound.0 (lines_of text) bound.1) bound.2

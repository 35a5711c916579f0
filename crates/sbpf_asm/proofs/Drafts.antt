-- Operands, read one by one.
use Rattle.std.proofs.Common.{◌≡◌, ◌<◌, ◌≤◌, ℕ, List, ◌∷◌, drop, length, Option, Some, None, refl, sym, ap, ◌∙◌, map}
use Rattle.std.proofs.lemmas.List.{drop_all, drop_more}
use Rattle.sbpf_asm.specs.declared.row.Operand.{Operand}
use Rattle.sbpf_asm.specs.declared.row.Operand.TheVariants.{Destination}
use Rattle.sbpf_asm.specs.Words.{Text, Cut, is_comma, trim, cut}
use Rattle.sbpf_asm.specs.Rows.{Draft, behind_first, finished, first_of, with_operands}
use Rattle.sbpf_asm.specs.Views.{behind, operands_left}
use Rattle.sbpf_asm.proofs.Pieces.{split_cut, parts_after}

left_behind : (rest : Option (ℕ × Text)) → map trim (parts_after is_comma rest) ≡ operands_left (behind rest)
left_behind None = refl
left_behind (Some p) = refl

-- the operands of a text: the first, and those that are left behind the comma
pub operands_cut : (text : Text) → operands_left (Some text) ≡ trim (cut is_comma text).front ∷ operands_left (behind (cut is_comma text).rest)
operands_cut text = ap (map trim) (split_cut is_comma text) ∙ ap (λ (texts : List Text). trim (cut is_comma text).front ∷ texts) (left_behind (cut is_comma text).rest)

pub first_cut : (text t : Text) (parts : Cut) → parts ≡ cut is_comma text → t ≡ trim parts.front → Some t ≡ first_of (operands_left (Some text))
first_cut text t parts e f = rw (f, e) (sym (ap first_of (operands_cut text)))

pub behind_cut : (text : Text) (rest : Option Text) (parts : Cut) → parts ≡ cut is_comma text → rest ≡ behind parts.rest → operands_left rest ≡ behind_first (operands_left (Some text))
behind_cut text rest parts e f = rw (f, e) (sym (ap behind_first (operands_cut text)))

-- an operand that is not there
pub no_operand : (os : List Operand) (i : ℕ) (texts : List Text) (d : Draft) → i < length os → first_of texts ≡ None → with_operands (drop i os) texts d ≡ None
no_operand os i texts d h e = ap (λ (kinds : List Operand). with_operands kinds texts d) (drop_more os i Destination h) ∙ rw e refl

-- a text that is left behind all operands
pub too_many : (os : List Operand) (i : ℕ) (text : Text) (d : Draft) → length os ≤ i → with_operands (drop i os) (operands_left (Some text)) d ≡ None
too_many os i text d h = ap (λ (kinds : List Operand). with_operands kinds (operands_left (Some text)) d) (drop_all i os h) ∙ ap (λ (texts : List Text). finished texts d) (operands_cut text)

-- Bytes that are written where they stand already.
use Rattle.std.proofs.Common.{◌≡◌, ◌++◌, ◌+◌, ℕ, Bool, true, List, length, take, drop, nat_eq, sym, ap, ◌∙◌, append_assoc}
use Rattle.std.specs.Cmp.Lexicographic.{pointwise, bytes_decides}
use Rattle.std.proofs.lemmas.List.{drop-drop, take-append-drop}
use Rattle.spec_base.specs.Bytes.{with_bytes}

same_patch : (bytes piece : List ℕ) (at : ℕ) → take (length piece) (drop at bytes) ≡ piece → bytes ≡ with_bytes bytes at piece
same_patch bytes piece at there =
    let k = length piece in
    sym (append_assoc (take at bytes) piece (drop (at + k) bytes)
    ∙ ap (λ (l : List ℕ). take at bytes ++ l)
    (ap (λ (p : List ℕ). p ++ drop (at + k) bytes) (sym there)
    ∙ ap (λ (q : List ℕ). take k (drop at bytes) ++ q) (sym (drop-drop k at bytes))
    ∙ take-append-drop k (drop at bytes))
    ∙ take-append-drop at bytes)

-- bytes that compare as equal to what stands there
pub patch-same : (bytes piece : List ℕ) (at n : ℕ) (same : Bool) → n ≡ length piece → same ≡ pointwise nat_eq (take n (drop at bytes)) piece → same ≡ true → bytes ≡ with_bytes bytes at piece
patch-same bytes piece at n same long is holds =
    same_patch bytes piece at (ap (λ (k : ℕ). take k (drop at bytes)) (sym long) ∙ (bytes_decides (take n (drop at bytes)) piece).0 (sym is ∙ holds))

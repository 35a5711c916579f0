-- Lists with zeros behind what is written down.
use Rattle.std.proofs.Common.{◌≡◌, ℕ, ◌+◌, ◌-◌, ◌≤◌, List, ◌++◌, length, take, drop, replicate, ap, ◌∙◌, rules, arith, length-append}
use Rattle.std.proofs.lemmas.List.{places, same_lists, length-replicate}
use Rattle.sbpf_memory.specs.Buffers.{filled}

pub filled_size : (bytes : List ℕ) (size : ℕ) → length bytes ≤ size → length (filled bytes size) ≡ size
filled_size bytes size h = length-append bytes (replicate (size - length bytes) 0) ∙ ap (λ n. length bytes + n) (length-replicate (size - length bytes) 0) ∙ omega arith

-- a range that is written down
pub filled_range : (bytes : List ℕ) (size at n : ℕ) → at + n ≤ length bytes → take n (drop at (filled bytes size)) ≡ take n (drop at bytes)
filled_range bytes size at n h = same_lists _ _ (search (rules, places)) (λ k d below. grind (arith, places))

-- more zeros are written down
pub filled_more : (bytes : List ℕ) (size more : ℕ) → length bytes + more ≤ size → filled (bytes ++ replicate more 0) size ≡ filled bytes size
filled_more bytes size more h = same_lists _ _ (search (rules, places)) (λ k d below. grind (arith, places))

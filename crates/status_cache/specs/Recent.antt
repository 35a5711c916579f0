-- The newest blocks of a chain, newest first (the project's own).
use Rattle.std.specs.Prelude.{◌≡◌, ℕ, ◌≤◌, Bool, List, [], ◌∷◌, All, AllPairs, length, replicate}
use Rattle.std.specs.List.{list_any}
use Rattle.std.specs.BTreeSet.{BTreeSet, contains}
use Rattle.std.specs.declared.cmp.Ordering.TheVariants.{Less}
use Rattle.sol_base.specs.declared.key.Hash32.{Hash32}
use Rattle.sol_base.specs.Keys.{hash_cmp, same_hash}
use Rattle.status_cache.specs.declared.recent.Mark.{Mark}
use Rattle.status_cache.specs.declared.recent.TheConstants.{MAX_MARKS}

-- each hash is below those after it
abbrev pub Ascends : List Hash32 → Type 0
Ascends hashes = AllPairs (λ a b. hash_cmp a b ≡ Less) hashes

-- the most blocks that a chain remembers
abbrev pub max_marks : ℕ
max_marks = MAX_MARKS

-- no more blocks than a chain remembers, and the messages of each ascending
pub record IsRecent (marks : List Mark) : Type 0 where
  pub few : length marks ≤ max_marks
  pub ascending : All (λ mark. Ascends mark.messages) marks

-- the hash is one of them
abbrev pub has_hash : List Hash32 → Hash32 → Bool
has_hash hashes hash = list_any (λ one. same_hash one hash) hashes

-- the set has the hash
abbrev pub has_name : BTreeSet Hash32 → Hash32 → Bool
has_name names name = contains hash_cmp names name

-- the hash is that of a block
abbrev pub knows : List Mark → Hash32 → Bool
knows marks hash = list_any (λ mark. same_hash mark.hash hash) marks

-- a block processed the message
abbrev pub processed : List Mark → Hash32 → Bool
processed marks message = list_any (λ mark. has_hash mark.messages message) marks

-- the hash of the newest block, and zeros where there is none
abbrev pub newest_of : List Mark → Hash32
newest_of [] = record { 0 = replicate 32 0 }
newest_of (mark ∷ _) = mark.hash

-- Which transactions are sought, by their positions in the block (the project's own).
use Rattle.std.specs.Prelude.{ℕ, ◌==◌, Bool, false, List, [], ◌∷◌, Option, Some, option_map}
use Rattle.std.specs.Str.{bytes_eq}
use Rattle.std.specs.List.{position}
use Rattle.message_codec.specs.declared.message.Signature.{Signature}
use Rattle.admission.specs.declared.chosen.Chosen.{Chosen}
use Rattle.block_run.specs.declared.watching.Wanted.{Wanted}
use Rattle.block_run.specs.declared.watching.Wanted.TheVariants.{All as each, One}
use Rattle.trace_run.specs.declared.run.Sought.{Sought}
use Rattle.trace_run.specs.declared.run.Sought.TheVariants.{All as all, Place, Signature as signed}

-- the first signature is this one
abbrev pub has_first : Signature → List Signature → Bool
has_first signature [] = false
has_first signature (first ∷ _) = bytes_eq first.0 signature.0

-- where the transaction is that is at a place of the batch
abbrev pub position_of : List Chosen → ℕ → Option ℕ
position_of order place = position (λ one. one.position == place) order

-- where the first transaction is that has this first signature
abbrev pub signed_by : List Chosen → Signature → Option ℕ
signed_by order signature = position (λ one. has_first signature one.tx.signatures) order

-- which positions are to be seen; none if the one that is sought does not run
abbrev pub wanted_in : List Chosen → Sought → Option Wanted
wanted_in order all = Some each
wanted_in order (Place place) = option_map One (position_of order place)
wanted_in order (signed signature) = option_map One (signed_by order signature)

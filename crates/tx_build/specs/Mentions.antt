-- The keys that a draft mentions, each once, with all the rights that it asks for them (Solana).
use Rattle.std.specs.Prelude.{ℕ, ◌&&◌, ◌||◌, Bool, true, false, List, [], ◌∷◌, Option, None, Some, map, take, if◌then◌else◌}
use Rattle.std.specs.List.{flat_map, list_any, enumerate_from}
use Rattle.sol_base.specs.declared.key.Key.{Key}
use Rattle.sol_base.specs.Keys.{same_key}
use Rattle.tx_build.specs.declared.draft.AccountMeta.{AccountMeta}
use Rattle.tx_build.specs.declared.draft.KeyedInstruction.{KeyedInstruction}
use Rattle.tx_build.specs.declared.draft.Draft.{Draft}
use Rattle.tx_build.specs.declared.mentions.Mention.{Mention}

-- the fee payer signs and is written
abbrev pub payer_mention : Key → Mention
payer_mention key = record { key = key; signer = true; writable = true; program = false }

abbrev pub program_mention : Key → Mention
program_mention key = record { key = key; signer = false; writable = false; program = true }

abbrev pub account_mention : AccountMeta → Mention
account_mention account = record {
  key = account.key;
  signer = account.signer;
  writable = account.writable;
  program = false;
}

-- an instruction mentions its program, and then its accounts
abbrev pub instruction_mentions : KeyedInstruction → List Mention
instruction_mentions instruction =
    program_mention instruction.program ∷ map account_mention instruction.accounts

-- the fee payer, and then what the instructions mention
abbrev pub mentions_of : Draft → List Mention
mentions_of draft =
    payer_mention draft.payer ∷ flat_map instruction_mentions draft.instructions

-- a mention is of the key
abbrev pub is_of : Key → Mention → Bool
is_of key mention = same_key mention.key key

-- the key with all that any mention asks of it
abbrev pub strongest : List Mention → Key → Mention
strongest mentions key = record {
  key = key;
  signer = list_any (λ mention. is_of key mention && mention.signer) mentions;
  writable = list_any (λ mention. is_of key mention && mention.writable) mentions;
  program = list_any (λ mention. is_of key mention && mention.program) mentions;
}

-- what is asked of a key that is mentioned
abbrev pub mentioned : List Mention → Key → Option Mention
mentioned mentions key =
    if list_any (is_of key) mentions then Some (strongest mentions key) else None

-- what is asked of a key, with what one more mention of it asks
abbrev pub joined : Option Mention → Mention → Mention
joined None mention = mention
joined (Some before) mention = record {
  key = mention.key;
  signer = before.signer || mention.signer;
  writable = before.writable || mention.writable;
  program = before.program || mention.program;
}

-- the key of a mention, where no mention before its place is of that key
abbrev pub added : List Mention → ℕ × Mention → List Mention
added mentions (at, mention) =
    if list_any (is_of mention.key) (take at mentions) then []
    else strongest mentions mention.key ∷ []

-- each key once, in the order of first mentions, with all that is asked of it anywhere
abbrev pub merged : List Mention → List Mention
merged mentions = flat_map (added mentions) (enumerate_from 0 mentions)

unfoldable pub listed : Draft → List Mention
listed draft = merged (mentions_of draft)

-- The order of a message's own keys, and its header (Solana): signers first, and of those that
-- sign, and of those that do not, the writable ones first.
use Rattle.std.specs.Prelude.{◌&&◌, not, Bool, List, ◌++◌, map, filter, count_by}
use Rattle.sol_base.specs.declared.key.Key.{Key}
use Rattle.message_codec.specs.declared.message.Header.{Header}
use Rattle.tx_build.specs.declared.mentions.Mention.{Mention}

-- the four classes, in their order
abbrev pub is_writable_signer : Mention → Bool
is_writable_signer mention = mention.signer && mention.writable

abbrev pub is_readonly_signer : Mention → Bool
is_readonly_signer mention = mention.signer && not mention.writable

abbrev pub is_writable_other : Mention → Bool
is_writable_other mention = not mention.signer && mention.writable

abbrev pub is_readonly_other : Mention → Bool
is_readonly_other mention = not mention.signer && not mention.writable

-- the keys of those that pass a test
abbrev pub keys_where : (Mention → Bool) → List Mention → List Key
keys_where test mentions = map (λ mention. mention.key) (filter test mentions)

-- the keys of the four classes, one class after the other
abbrev pub ordered_keys : List Mention → List Key
ordered_keys mentions =
    keys_where is_writable_signer mentions ++ keys_where is_readonly_signer mentions
    ++ keys_where is_writable_other mentions ++ keys_where is_readonly_other mentions

-- how many sign, and how many of either kind are only read
abbrev pub header_of : List Mention → Header
header_of mentions = record {
  required = count_by (λ mention. mention.signer) mentions;
  readonly_signed = count_by is_readonly_signer mentions;
  readonly_unsigned = count_by is_readonly_other mentions;
}

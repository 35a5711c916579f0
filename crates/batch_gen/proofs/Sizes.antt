-- How long the transactions are.
use Rattle.std.proofs.Common.{◌≡◌, ℕ, length, refl}
use Rattle.message_codec.specs.Compact.{compact}
use Rattle.message_codec.specs.Wire.{tx_bytes}
use Rattle.batch_gen.specs.Generator.{transfer}

pub transfer_len : (from to price lamports : ℕ) → length (tx_bytes (transfer from to price lamports)) ≡ 267
unfolding compact
transfer_len from to price lamports = refl

-- Signatures that are filled in by a rule (the project's own), since none is tested: for each
-- signer the hash of the message, and the hash of that hash and the signer's key.
use Rattle.std.specs.Prelude.{List, ◌++◌, map, take}
use Rattle.spec_base.specs.Sha256.{sha256}
use Rattle.sol_base.specs.declared.key.Key.{Key}
use Rattle.sol_base.specs.declared.key.Hash32.{Hash32}
use Rattle.message_codec.specs.declared.message.Signature.{Signature}
use Rattle.message_codec.specs.declared.message.Message.{Message}
use Rattle.message_codec.specs.declared.message.Tx.{Tx}
use Rattle.message_codec.specs.Wire.{message_name}

abbrev pub signature_of : Hash32 → Key → Signature
signature_of name key = record { 0 = name.0 ++ sha256 (name.0 ++ key.0) }

-- the keys that sign
abbrev pub signer_keys : Message → List Key
signer_keys message = take message.header.required message.keys

-- the transaction of the message
abbrev pub signed : Message → Tx
signed message = record {
  signatures = map (signature_of (message_name message)) (signer_keys message);
  message = message;
}

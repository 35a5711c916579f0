-- Messages and transactions: what is spelled is read again, and what is read is spelled so.
use Rattle.std.proofs.Common.{◌≡◌, ◌<◌, ◌≤◌, ℕ, List, [], ◌∷◌, ◌++◌, length, Result, Ok, Err, true, false, inl, inr, refl, sym, ap, subst, ◌∙◌, append_assoc, nat_lt, arith}
use Rattle.std.specs.Prelude.{nat_eq, All, IfOk}
use Rattle.std.specs.List.{AllByRecursion}
use Rattle.std.proofs.lemmas.Bool.Decides.{nat_tests}
use Rattle.std.proofs.lemmas.List.{append-nil}
use Rattle.std.proofs.lemmas.List.Elements.{All-from_recursion, recursion_from_All, All-nil}
use Rattle.spec_base.specs.Bytes.{IsBytes}
use Rattle.spec_base.specs.Reading.{Gives}
use Rattle.spec_base.proofs.Binding.{bind_ok, chosen, ok_parts, after_bytes, whole_ok, onward, follows}
use Rattle.spec_base.proofs.Formats.{Reads, taken}
use Rattle.spec_base.specs.Sha256.{sha256}
use Rattle.sol_base.specs.declared.key.Hash32.{Hash32}
use Rattle.sol_base.specs.Keys.{IsKey, IsHash, key_bytes, hash_bytes}
use Rattle.format_fields.specs.Fields.{key_at}
use Rattle.format_fields.proofs.FieldLaws.{key_reads, hash_reads}
use Rattle.message_codec.specs.declared.fault.WireFault.{WireFault}
use Rattle.message_codec.specs.declared.fault.WireFault.TheVariants.{TooLong, Truncated, Version, Trailing}
use Rattle.message_codec.specs.declared.message.Signature.{Signature}
use Rattle.message_codec.specs.declared.message.Header.{Header}
use Rattle.message_codec.specs.declared.message.Lookup.{Lookup}
use Rattle.message_codec.specs.declared.message.MessageKind.{MessageKind}
use Rattle.message_codec.specs.declared.message.MessageKind.TheVariants.{Legacy, Zero}
use Rattle.message_codec.specs.declared.message.Message.{Message}
use Rattle.message_codec.specs.declared.message.Tx.{Tx}
use Rattle.message_codec.specs.Wire.{array_bytes, signature_bytes, header_bytes, instruction_bytes, kind_bytes, lookups_bytes, message_bytes, message_name, tx_bytes, IsOneWire, IsCountable, HasShortLists, HasWidths, AllowsLookups, BeginsAsItsKind, Wire, max_wire_len}
use Rattle.message_codec.specs.WireReading.{Read, is_wire_memory, array_at, signature_at, instruction_at, lookup_at, kind_at, lookups_at, message_at, tx_at, wire_of}
use Rattle.message_codec.proofs.PartLaws.{array_reads, signature_reads, InstructionFits, instruction_reads, LookupFits, lookup_reads, HeaderFits, header_reads}

-- kinds

-- a Legacy message has no byte of its own before its header
abbrev Begins : MessageKind → List ℕ → Type 0
Begins Legacy [] = ⊥
Begins Legacy (byte ∷ rest) = byte < 128
Begins Zero rest = Unit {0}

kind_again : (total : ℕ) (kind : MessageKind) (rest : List ℕ) → Begins kind rest → kind_at total (kind_bytes kind ++ rest) ≡ Ok (kind, rest)
kind_again total Legacy [] h = absurd h
kind_again total Legacy (byte ∷ rest) h = grind (arith, nat_tests)
kind_again total Zero rest h = refl

kind_takes : (total : ℕ) (bytes : List ℕ) (kind : MessageKind) (rest : List ℕ) → kind_at total bytes ≡ Ok (kind, rest) → Begins kind rest × (bytes ≡ kind_bytes kind ++ rest)
kind_takes total [] kind rest h = absurd (cc)
kind_takes total (byte ∷ bs) kind rest h =
    elim (chosen (nat_lt byte 128) _ _ _ h) [
      | inl p ↦ let k : (Legacy ≡ kind) × (byte ∷ bs ≡ rest) = parts Legacy (byte ∷ bs) p.1 in
          let small : byte < 128 = grind (arith, nat_tests) in
          let Claim : MessageKind → List ℕ → Type 0 = λ v l. Begins v l × (byte ∷ bs ≡ kind_bytes v ++ l) in
          subst (λ v. Claim v rest) k.0 (subst (Claim Legacy) k.1 (small, refl))
      | inr q ↦ elim (chosen (nat_eq byte 128) _ _ _ q.1) [
        | inl p ↦ let k : (Zero ≡ kind) × (bs ≡ rest) = parts Zero bs p.1 in
            let same : byte ≡ 128 = grind (arith, nat_tests) in
            let Claim : MessageKind → List ℕ → Type 0 = λ v l. Begins v l × (byte ∷ bs ≡ kind_bytes v ++ l) in
            subst (λ v. Claim v rest) k.0 (subst (Claim Zero) k.1 (tt, ap (λ (b : ℕ). b ∷ bs) same))
        | inr r ↦ absurd (let e : (let l : Read MessageKind = Err (Version byte) in l) ≡ Ok (kind, rest) = r.1 in cc)
      ]
    ]
  where
    parts : (a : MessageKind) (l : List ℕ) → (let r : Read MessageKind = Ok (a, l) in r) ≡ Ok (kind, rest) → (a ≡ kind) × (l ≡ rest)
    parts a l e = ok_parts a kind l rest e

-- lookups

abbrev LookupsFit : MessageKind → List Lookup → Type 0
LookupsFit Legacy lookups = lookups ≡ []
LookupsFit Zero lookups = IsCountable lookups × AllByRecursion LookupFits lookups

lookups_again : (total : ℕ) (kind : MessageKind) (lookups : List Lookup) (rest : List ℕ) → LookupsFit kind lookups → lookups_at kind total (lookups_bytes kind lookups ++ rest) ≡ Ok (lookups, rest)
lookups_again total Legacy lookups rest h = ap (λ (l : List Lookup). Ok (l, rest)) (sym h)
lookups_again total Zero lookups rest h = (array_reads lookup_at total (lookup_reads total)).again lookups rest h

lookups_takes : (total : ℕ) (kind : MessageKind) (bytes : List ℕ) (lookups : List Lookup) (rest : List ℕ) → IsBytes bytes → lookups_at kind total bytes ≡ Ok (lookups, rest)
    → LookupsFit kind lookups × (bytes ≡ lookups_bytes kind lookups ++ rest)
lookups_takes total Legacy bytes lookups rest are h = let p = ok_parts _ _ _ _ h in (sym p.0, p.1)
lookups_takes total Zero bytes lookups rest are h = (array_reads lookup_at total (lookup_reads total)).takes bytes lookups rest are h

lookups_reads : (total : ℕ) (kind : MessageKind) → Reads (lookups_at kind total) (lookups_bytes kind) (LookupsFit kind)
lookups_reads total kind = record { again = lookups_again total kind; takes = lookups_takes total kind }

-- messages

pub record MessageFits (message : Message) : Type 0 where
  pub begins : BeginsAsItsKind message.kind message.header
  pub header : HeaderFits message.header
  pub keys : IsCountable message.keys × AllByRecursion IsKey message.keys
  pub blockhash : IsHash message.blockhash
  pub instructions : IsCountable message.instructions × AllByRecursion InstructionFits message.instructions
  pub lookups : LookupsFit message.kind message.lookups

-- a kind, and the header that its first byte is of
begun : (kind : MessageKind) (header : Header) (rest : List ℕ) → BeginsAsItsKind kind header → Begins kind (header_bytes header ++ rest)
begun Legacy header rest h = h
begun Zero header rest h = tt

begins_so : (kind : MessageKind) (header : Header) (bytes rest : List ℕ) → Begins kind bytes → bytes ≡ header_bytes header ++ rest → BeginsAsItsKind kind header
begins_so Legacy header bytes rest h e = subst (Begins Legacy) e h
begins_so Zero header bytes rest h e = tt

message_again : (total : ℕ) (message : Message) (rest : List ℕ) → MessageFits message → message_at total (message_bytes message ++ rest) ≡ Ok (message, rest)
unfolding message_at
message_again total m rest fits =
    let lookups = lookups_bytes m.kind m.lookups ++ rest in
    let instructions = array_bytes instruction_bytes m.instructions ++ lookups in
    let blockhash = hash_bytes m.blockhash ++ instructions in
    let keys = array_bytes key_bytes m.keys ++ blockhash in
    let header = header_bytes m.header ++ keys in
    let front : message_bytes m ++ rest ≡ kind_bytes m.kind ++ header = simp append_assoc in
    subst (λ (l : List ℕ). message_at total l ≡ Ok (m, rest)) (sym front)
    (rw (
      kind_again total m.kind header (begun m.kind m.header keys fits.begins),
      (header_reads total).again m.header keys fits.header,
      (array_reads (key_at Truncated) total (key_reads Truncated total)).again m.keys blockhash fits.keys,
      (hash_reads Truncated total).again m.blockhash instructions fits.blockhash,
      (array_reads instruction_at total (instruction_reads total)).again m.instructions lookups fits.instructions,
      (lookups_reads total m.kind).again m.lookups rest fits.lookups,
    ) refl)

message_takes : (total : ℕ) (bytes : List ℕ) (message : Message) (rest : List ℕ) → IsBytes bytes → message_at total bytes ≡ Ok (message, rest)
    → MessageFits message × (bytes ≡ message_bytes message ++ rest)
unfolding message_at
message_takes total bytes message rest are h =
    let k = bind_ok (kind_at total bytes) _ (message, rest) h in
    let kind = k.0.0 in
    let first = kind_takes total bytes kind k.0.1 k.1 in
    let a = taken (header_reads total) _ k.0.1 (message, rest) (after_bytes bytes (kind_bytes kind) k.0.1 are first.1) k.2 in
    let b = taken (array_reads (key_at Truncated) total (key_reads Truncated total)) _ a.rest (message, rest) a.are_bytes a.goes_on in
    let c = taken (hash_reads Truncated total) _ b.rest (message, rest) b.are_bytes b.goes_on in
    let d = taken (array_reads instruction_at total (instruction_reads total)) _ c.rest (message, rest) c.are_bytes c.goes_on in
    let e = taken (lookups_reads total kind) _ d.rest (message, rest) d.are_bytes d.goes_on in
    let p = ok_parts _ _ _ _ e.goes_on in
    let made : Message = record { kind = kind; header = a.value; keys = b.value; blockhash = c.value; instructions = d.value; lookups = e.value } in
    let fits : MessageFits made = record {
      begins = begins_so kind a.value k.0.1 a.rest first.0 a.spelled;
      header = a.fits;
      keys = b.fits;
      blockhash = c.fits;
      instructions = d.fits;
      lookups = e.fits;
    } in
    let to_header = follows (kind_bytes kind) (header_bytes a.value) a.rest first.1 a.spelled in
    let to_keys = follows (kind_bytes kind ++ header_bytes a.value) (array_bytes key_bytes b.value) b.rest to_header b.spelled in
    let to_blockhash = follows (kind_bytes kind ++ header_bytes a.value ++ array_bytes key_bytes b.value) (hash_bytes c.value) c.rest to_keys c.spelled in
    let to_instructions = follows
    (kind_bytes kind ++ header_bytes a.value ++ array_bytes key_bytes b.value ++ hash_bytes c.value)
    (array_bytes instruction_bytes d.value) d.rest to_blockhash d.spelled in
    let to_end = follows (kind_bytes kind ++ header_bytes a.value ++ array_bytes key_bytes b.value
    ++ hash_bytes c.value ++ array_bytes instruction_bytes d.value) (lookups_bytes kind e.value) rest
    to_instructions (onward (lookups_bytes kind e.value) e.spelled p.1) in
    subst (λ (v : Message). MessageFits v × (bytes ≡ message_bytes v ++ rest)) p.0 (fits, to_end)

pub message_reads : (total : ℕ) → Reads (message_at total) message_bytes MessageFits
message_reads total = record { again = message_again total; takes = message_takes total }

-- transactions

pub record TxFits (tx : Tx) : Type 0 where
  pub signatures : IsCountable tx.signatures × AllByRecursion (λ signature. length signature.0 ≡ 64) tx.signatures
  pub message : MessageFits tx.message

tx_again : (total : ℕ) (tx : Tx) (rest : List ℕ) → TxFits tx → tx_at total (tx_bytes tx ++ rest) ≡ Ok (tx, rest)
unfolding tx_at
tx_again total tx rest fits =
    rw (
      append_assoc (array_bytes signature_bytes tx.signatures) (message_bytes tx.message) rest,
      (array_reads signature_at total (signature_reads total)).again tx.signatures (message_bytes tx.message ++ rest) fits.signatures,
      message_again total tx.message rest fits.message,
    ) refl

tx_takes : (total : ℕ) (bytes : List ℕ) (tx : Tx) (rest : List ℕ) → IsBytes bytes → tx_at total bytes ≡ Ok (tx, rest) → TxFits tx × (bytes ≡ tx_bytes tx ++ rest)
unfolding tx_at
tx_takes total bytes tx rest are h =
    let a = taken (array_reads signature_at total (signature_reads total)) _ bytes (tx, rest) are h in
    let b = taken (message_reads total) _ a.rest (tx, rest) a.are_bytes a.goes_on in
    let p = ok_parts _ _ _ _ b.goes_on in
    subst (λ (v : Tx). TxFits v × (bytes ≡ tx_bytes v ++ rest)) p.0
    (record { signatures = a.fits; message = b.fits }, follows (array_bytes signature_bytes a.value) (message_bytes b.value) rest a.spelled (onward (message_bytes b.value) b.spelled p.1))

-- what reading asks of a transaction, and what the format and the types say

lookups_fit : (kind : MessageKind) (message : Message) → AllowsLookups kind message.lookups
    → HasShortLists message → All (λ lookup. IsKey lookup.table) message.lookups
    → LookupsFit kind message.lookups
lookups_fit Legacy message none lists tables = none
lookups_fit Zero message allows lists tables =
    (lists.lookups, recursion_from_All LookupFits message.lookups (λ k d lt. record { table = tables k d lt; writable = lists.writable k d lt; readonly = lists.readonly k d lt }))

fits_reading : (tx : Tx) → BeginsAsItsKind tx.message.kind tx.message.header
    → AllowsLookups tx.message.kind tx.message.lookups → IsCountable tx.signatures → HasShortLists tx.message
    → HasWidths tx → TxFits tx
fits_reading tx begins allows short lists widths = record {
  signatures = (short, recursion_from_All (λ signature. length signature.0 ≡ 64) tx.signatures widths.signatures);
  message = record {
    begins = begins;
    header = record { required = widths.required; readonly_signed = widths.readonly_signed; readonly_unsigned = widths.readonly_unsigned };
    keys = (lists.keys, recursion_from_All IsKey tx.message.keys widths.keys);
    blockhash = widths.blockhash;
    instructions = (
      lists.instructions,
      recursion_from_All InstructionFits tx.message.instructions
          (λ k d lt. record { program = widths.programs k d lt; accounts = lists.accounts k d lt; input = lists.inputs k d lt }),
    );
    lookups = lookups_fit tx.message.kind tx.message allows lists widths.tables;
  };
}

allowed : (kind : MessageKind) (lookups : List Lookup) → LookupsFit kind lookups → AllowsLookups kind lookups
allowed Legacy lookups none = none
allowed Zero lookups fits = tt

-- what is said of each lookup that is read
record EachLookup (lookups : List Lookup) : Type 0 where
  short : IsCountable lookups
  each : All LookupFits lookups

each_lookup : (kind : MessageKind) (lookups : List Lookup) → LookupsFit kind lookups → EachLookup lookups
each_lookup Legacy lookups none = subst EachLookup (sym none) (record { short = omega arith; each = All-nil LookupFits })
each_lookup Zero lookups fits = record { short = fits.0; each = All-from_recursion LookupFits lookups fits.1 }

short_lists : (message : Message) → MessageFits message → HasShortLists message
short_lists message fits =
    let instructions = All-from_recursion InstructionFits message.instructions fits.instructions.1 in
    let lookups = each_lookup message.kind message.lookups fits.lookups in
    record {
      keys = fits.keys.0;
      instructions = fits.instructions.0;
      accounts = λ k d lt. (instructions k d lt).accounts;
      inputs = λ k d lt. (instructions k d lt).input;
      lookups = lookups.short;
      writable = λ k d lt. (lookups.each k d lt).writable;
      readonly = λ k d lt. (lookups.each k d lt).readonly;
    }

widths_of : (tx : Tx) → TxFits tx → HasWidths tx
widths_of tx fits =
    let instructions = All-from_recursion InstructionFits tx.message.instructions fits.message.instructions.1 in
    let lookups = each_lookup tx.message.kind tx.message.lookups fits.message.lookups in
    record {
      signatures = All-from_recursion (λ signature. length signature.0 ≡ 64) tx.signatures fits.signatures.1;
      required = fits.message.header.required;
      readonly_signed = fits.message.header.readonly_signed;
      readonly_unsigned = fits.message.header.readonly_unsigned;
      keys = All-from_recursion IsKey tx.message.keys fits.message.keys.1;
      blockhash = fits.message.blockhash;
      programs = λ k d lt. (instructions k d lt).program;
      tables = λ k d lt. (lookups.each k d lt).table;
    }

-- wires

-- what is spelled so is read
pub wire_again : (bytes : List ℕ) (tx : Tx) → Wire bytes tx → wire_of bytes ≡ Ok tx
unfolding wire_of
wire_again bytes tx wire =
    let short : nat_lt max_wire_len (length bytes) ≡ false = let h = wire.short in grind (arith, nat_tests) in
    let read : tx_at (length bytes) (tx_bytes tx ++ []) ≡ Ok (tx, []) = tx_again (length bytes) tx [] (fits_reading tx wire.begins wire.allows wire.signatures wire.lists wire.widths) in
    let here : tx_at (length bytes) bytes ≡ Ok (tx, []) = subst (λ (l : List ℕ). tx_at (length bytes) l ≡ Ok (tx, [])) (append-nil (tx_bytes tx) ∙ sym wire.spelled) read in
    then short here
  where
    then : nat_lt max_wire_len (length bytes) ≡ false → tx_at (length bytes) bytes ≡ Ok (tx, []) → wire_of bytes ≡ Ok tx
    then short here = rw (short, here) refl

-- what is read is spelled so
pub wire_takes : (bytes : List ℕ) (tx : Tx) → IsBytes bytes → wire_of bytes ≡ Ok tx → Wire bytes tx
unfolding wire_of
wire_takes bytes tx are h =
    elim (chosen (nat_lt max_wire_len (length bytes)) _ _ _ h) [
      | inl p ↦ absurd (let e : (let l : Result Tx WireFault = Err TooLong in l) ≡ Ok tx = p.1 in cc)
      | inr q ↦
          let a = bind_ok (tx_at (length bytes) bytes) _ tx q.1 in
          let w = whole_ok Trailing (length bytes) a.0.0 a.0.1 tx a.2 in
          let read : tx_at (length bytes) bytes ≡ Ok (tx, []) = a.1 ∙ same a.0.0 a.0.1 w.0 w.1 in
          let t = tx_takes (length bytes) bytes tx [] are read in
          record {
            short = below q.0;
            spelled = t.1 ∙ append-nil (tx_bytes tx);
            begins = t.0.message.begins;
            allows = allowed tx.message.kind tx.message.lookups t.0.message.lookups;
            signatures = t.0.signatures.0;
            lists = short_lists tx.message t.0.message;
            widths = widths_of tx t.0;
          }
    ]
  where
    same : (x : Tx) (rest : List ℕ) → rest ≡ [] → x ≡ tx → (let l : Read Tx = Ok (x, rest) in l) ≡ Ok (tx, [])
    same x rest e f = cc

    below : nat_lt max_wire_len (length bytes) ≡ false → length bytes ≤ max_wire_len
    below e = grind (arith, nat_tests)

pub is_found : (bytes : List ℕ) (result : Result Tx WireFault) → IsBytes bytes → Gives is_wire_memory (λ v. v) result (wire_of bytes) → IfOk result (λ tx. Wire bytes tx)
is_found bytes (Ok tx) are h = wire_takes bytes tx are h
is_found bytes (Err e) are h = tt

pub is_only : (bytes : List ℕ) (result : Result Tx WireFault) → Gives is_wire_memory (λ v. v) result (wire_of bytes) → (tx : Tx) → Wire bytes tx → Gives is_wire_memory (λ v. v) result (Ok tx)
is_only bytes result h tx wire = subst (Gives is_wire_memory (λ v. v) result) (wire_again bytes tx wire) h

-- what follows the signatures is the message's bytes
pub signed_bytes : (total : ℕ) (bytes : List ℕ) (signatures : List Signature) (signed : List ℕ) (message : Message) (rest : List ℕ) → IsBytes bytes
    → array_at signature_at total bytes ≡ Ok (signatures, signed) → message_at total signed ≡ Ok (message, rest) → nat_eq (length rest) 0 ≡ true → signed ≡ message_bytes message
signed_bytes total bytes signatures signed message rest are first second none =
    let a = (array_reads signature_at total (signature_reads total)).takes bytes signatures signed are first in
    let b = message_takes total signed message rest (after_bytes bytes (array_bytes signature_bytes signatures) signed are a.1) second in
    b.1 ∙ ap (λ (l : List ℕ). message_bytes message ++ l) (is_empty rest none) ∙ append-nil (message_bytes message)
  where
    is_empty : (rest : List ℕ) → nat_eq (length rest) 0 ≡ true → rest ≡ []
    is_empty [] e = refl
    is_empty (b ∷ bs) e = absurd (grind (arith, nat_tests))

pub round_trips : (tx : Tx) → IsOneWire tx → wire_of (tx_bytes tx) ≡ Ok tx
round_trips tx is = wire_again (tx_bytes tx) tx (record {
  short = is.short;
  spelled = refl;
  begins = is.begins;
  allows = is.allows;
  signatures = is.signatures;
  lists = is.lists;
  widths = is.widths;
})

pub named : (name : Hash32) (message : Message) (bytes : List ℕ) → name.0 ≡ sha256 bytes → bytes ≡ message_bytes message → name ≡ message_name message
named name message bytes digest same = ap (λ (digest : List ℕ). let hash : Hash32 = record { 0 = digest } in hash) (digest ∙ ap sha256 same)

-- One account of a snapshot, and one entry of a record, as JSON (the project's own forms).
use Rattle.std.specs.Prelude.{ℕ, Bool, true, false, List, [], ◌∷◌, ◌++◌, codes, bytes_eq, Option, option_map}
use Rattle.std.specs.List.{find}
use Rattle.std.specs.Fmt.{decimal}
use Rattle.hex.specs.Hex.{encode_lower}
use Rattle.sol_base.specs.declared.key.Key.{Key}
use Rattle.sol_base.specs.declared.account.Account.{Account}
use Rattle.message_codec.specs.declared.message.Signature.{Signature}
use Rattle.message_codec.specs.declared.parsed.Parsed.{Parsed}
use Rattle.message_codec.specs.declared.parsed.Parsed.TheVariants.{Good, Bad}
use Rattle.message_codec.specs.Parsing.{parsed_of}
use Rattle.block_record.specs.declared.block.Entry.{Entry}
use Rattle.bank_show.specs.Show.{text_of_entry}
use Rattle.text_views.specs.Fields.{Text}

-- the name of a member, and its value
unfoldable pub hex_member : Text → List ℕ → Text
hex_member name bytes = name ++ codes "\"" ++ encode_lower bytes ++ codes "\""

unfoldable pub number_member : Text → ℕ → Text
number_member name number = name ++ decimal number

abbrev pub flag_member : Text → Bool → Text
flag_member name true = name ++ codes "true"
flag_member name false = name ++ codes "false"

unfoldable pub data_text : List ℕ → Text
data_text bytes = codes "{" ++ hex_member (codes "\"data\":") bytes

unfoldable pub middle_text : Bool → Key → Text
middle_text executable key =
    flag_member (codes ",\"executable\":") executable ++ hex_member (codes ",\"key\":") key.0

unfoldable pub back_text : Account → Text
back_text account =
    number_member (codes ",\"lamports\":") account.lamports
    ++ hex_member (codes ",\"owner\":") account.owner.0
    ++ codes "}\n"

-- an account as one line, its members in the order of their names
abbrev pub account_text : Key → Account → Text
account_text key account =
    data_text account.bytes ++ middle_text account.executable key ++ back_text account

abbrev pub has_first : Signature → List Signature → Bool
has_first signature [] = false
has_first signature (first ∷ rest) = bytes_eq first.0 signature.0

abbrev pub is_signed_by : Signature → Parsed → Bool
is_signed_by signature (Good tx name) = has_first signature tx.signatures
is_signed_by signature (Bad fault) = false

-- the wire is a transaction whose first signature this is
unfoldable pub is_signed : Signature → List ℕ → Bool
is_signed signature wire = is_signed_by signature (parsed_of wire)

-- the text of the first such entry
abbrev pub entry_signed : Signature → List Entry → Option Text
entry_signed signature entries =
    option_map text_of_entry (find (λ entry. is_signed signature entry.wire) entries)

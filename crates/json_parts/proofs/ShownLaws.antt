-- A member `shown` is passed over.
use Rattle.std.proofs.Common.{◌≡◌, ℕ, List, Ok, Err, true, false, Ordering, Less, Equal, Greater, nat_cmp, refl}
use Rattle.std.specs.Prelude.{codes, bytes_eq}
use Rattle.std.specs.Ordering.{match_ordering}
use Rattle.std.specs.Cmp.Lexicographic.{slice_cmp}
use Rattle.std.proofs.lemmas.Slice.Eq.{bytes_eq-Decides}
use Rattle.spec_base.specs.Bytes.{max_count}
use Rattle.spec_base.specs.Reading.{◌>>=◌}
use Rattle.serde_json.specs.Data.{Data, null, boolean, number, string, array, object, Members, no_members, member, put}
use Rattle.serde_json.specs.Find.{get}
use Rattle.serde_json.proofs.Views.{get_member-put_other}
use Rattle.json_parts.specs.Faults.{Read}
use Rattle.json_parts.specs.Written.{with_shown}
use Rattle.json_parts.specs.Parts.{has_name, names_in, known_in, found_in, member_in, digits_in, data_in, list_in}
use Rattle.json_parts.specs.TransactionJson.{transaction_names, wire_names, key_in, signature_in, header_in, instruction_in, lookup_in, kind_in, most_lookups, message_in, tx_in, whole_tx_in, wire_in, transaction_in}

apart : (name : List ℕ) → bytes_eq name (codes "shown") ≡ false → (name ≡ codes "shown" → ⊥)
apart name other = λ same. let yes = (bytes_eq-Decides name (codes "shown")).1 same in absurd (cc)

-- the other members are found as before
pub get_shown : (name : List ℕ) (shown d : Data) → bytes_eq name (codes "shown") ≡ false → get name (with_shown shown d) ≡ get name d
get_shown name shown null other = refl
get_shown name shown (boolean b) other = refl
get_shown name shown (number n) other = refl
get_shown name shown (string s) other = refl
get_shown name shown (array ds) other = refl
get_shown name shown (object ms) other = get_member-put_other name (codes "shown") shown ms (apart name other)

-- and stand for the same
pub member_shown : {X : Type 0} (name : List ℕ) (one : Data → Read X) (shown d : Data) → bytes_eq name (codes "shown") ≡ false → member_in name one (with_shown shown d) ≡ member_in name one d
unfolding member_in found_in
member_shown name one shown d other = rw (get_shown name shown d other) refl

names_shown : (names : List (List ℕ)) (shown : Data) (ms : Members) → has_name names (codes "shown") ≡ true → names_in names (put (codes "shown") shown ms) ≡ names_in names ms
names_shown names shown no_members has = rw has refl
names_shown names shown (member l e ms) has = by_order (slice_cmp nat_cmp (codes "shown") l) (names_shown names shown ms has)
  where
    by_order : (o : Ordering) → names_in names (put (codes "shown") shown ms) ≡ names_in names ms
        → names_in names (match_ordering o (member (codes "shown") shown (member l e ms)) (member l shown ms)
        (member l e (put (codes "shown") shown ms))) ≡ names_in names (member l e ms)
    by_order Less rest = rw has refl
    by_order Equal rest = refl
    by_order Greater rest = rw rest refl

-- an object with it is known where its name is one of the names
pub known_shown : (names : List (List ℕ)) (shown d : Data) → has_name names (codes "shown") ≡ true → known_in names (with_shown shown d) ≡ known_in names d
unfolding known_in
known_shown names shown null has = refl
known_shown names shown (boolean b) has = refl
known_shown names shown (number n) has = refl
known_shown names shown (string s) has = refl
known_shown names shown (array ds) has = refl
known_shown names shown (object ms) has = names_shown names shown ms has

pub bind_same : {X Y : Type 0} (read : Read X) (f g : X → Read Y) → ((x : X) → f x ≡ g x) → (read >>= f) ≡ (read >>= g)
bind_same (Ok x) f g same = same x
bind_same (Err fault) f g same = refl

wire_shown : (shown d : Data) → wire_in (with_shown shown d) ≡ wire_in d
unfolding wire_in
wire_shown shown d = rw (known_shown wire_names shown d refl, member_shown (codes "wire") (data_in max_count) shown d refl) refl

message_shown : (shown d : Data) → message_in (with_shown shown d) ≡ message_in d
unfolding message_in
message_shown shown d = rw (
  member_shown (codes "version") kind_in shown d refl,
  member_shown (codes "header") header_in shown d refl,
  member_shown (codes "keys") (list_in max_count key_in) shown d refl,
  member_shown (codes "recent_blockhash") (digits_in 32) shown d refl,
  member_shown (codes "instructions") (list_in max_count instruction_in) shown d refl,
) (bind_same (member_in (codes "version") kind_in d) _ _ (λ kind. rw (member_shown (codes "lookups") (list_in (most_lookups kind) lookup_in) shown d refl) refl))

tx_shown : (shown d : Data) → tx_in (with_shown shown d) ≡ tx_in d
unfolding tx_in
tx_shown shown d = rw (known_shown transaction_names shown d refl, member_shown (codes "signatures") (list_in max_count signature_in) shown d refl, message_shown shown d) refl

whole_shown : (shown d : Data) → whole_tx_in (with_shown shown d) ≡ whole_tx_in d
unfolding whole_tx_in
whole_shown shown d = rw (tx_shown shown d) refl

-- what a transaction stands for
pub transaction_shown : (shown d : Data) → transaction_in (with_shown shown d) ≡ transaction_in d
unfolding transaction_in
transaction_shown shown d = rw (get_shown (codes "wire") shown d refl, wire_shown shown d, whole_shown shown d) refl

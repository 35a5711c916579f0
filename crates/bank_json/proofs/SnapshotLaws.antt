-- Snapshots in JSON: what is written stands for the bytes that it was made of.
use Rattle.std.proofs.Common.{◌≡◌, ◌≤◌, ◌^◌, ◌-◌, inl, inr, ℕ, List, [], ◌∷◌, ◌++◌, length, take, Result, Ok, Err, Some, Bool, true, false, refl, sym, ap, subst, ◌∙◌, append_assoc, arith, lit≤}
use Rattle.std.specs.Prelude.{codes, ◌==◌, if◌then◌else◌}
use Rattle.std.specs.Int.{w32, w64, to_le_bytes}
use Rattle.std.specs.List.{flat_map, AllByRecursion}
use Rattle.std.proofs.lemmas.Bool.Decides.{nat_tests}
use Rattle.std.proofs.lemmas.List.{take_all}
use Rattle.std.proofs.lemmas.List.Elements.{recursion_from_All}
use Rattle.std.proofs.lemmas.List.Sums.{sum_by-cons}
use Rattle.std.specs.FinMap.{len-entries}
use Rattle.spec_base.specs.Bytes.{IsBytes}
use Rattle.spec_base.proofs.Binding.{before_bytes, after_bytes, ok_same}
use Rattle.sol_base.specs.declared.key.Key.{Key}
use Rattle.sol_base.specs.declared.key.Hash32.{Hash32}
use Rattle.sol_base.specs.declared.account.Account.{Account}
use Rattle.sol_base.specs.declared.limits.Limits.{Limits}
use Rattle.sol_base.specs.Keys.{IsKey, IsHash, hash_bytes}
use Rattle.sol_base.specs.Limits.{max_transactions, max_transaction_keys, max_stack_height, max_block_units}
use Rattle.sol_base.specs.Accounts.{max_data_len, IsShort}
use Rattle.status_cache.specs.declared.recent.Mark.{Mark}
use Rattle.status_cache.specs.Recent.{max_marks}
use Rattle.account_store.specs.State.{IsHeld, entries, lamports_of}
use Rattle.snapshot_codec.specs.declared.snapshot.Snapshot.{Snapshot}
use Rattle.snapshot_codec.specs.declared.snapshot.Prefix.{Prefix}
use Rattle.snapshot_codec.specs.declared.fault.SnapshotFault.{SnapshotFault}
use Rattle.snapshot_codec.specs.Snapshot.{max_accounts, flag, account_bytes, mark_bytes, marks_bytes, state_bytes, limits_bytes, snapshot_bytes, snapshot_bytes_one, AreAllowed, Spells, BeginsWith}
use Rattle.snapshot_codec.specs.SnapshotReading.{prefix_of}
use Rattle.snapshot_codec.proofs.MarkLaws.{MarkFits, MarksFit, fits-from_recent}
use Rattle.snapshot_codec.proofs.SnapshotLaws.{prefix_takes}
use Rattle.serde_json.specs.Data.{Data, boolean}
use Rattle.serde_json.specs.Find.{get}
use Rattle.json_parts.specs.declared.fault.JsonFault.TheVariants.{Trailing}
use Rattle.json_parts.specs.Faults.{Read}
use Rattle.json_parts.specs.Written.{hex_json, number_json, list_json}
use Rattle.json_parts.specs.Parts.{number_in, digits_in, data_in, flag_in, known_in, member_in, list_in}
use Rattle.bank_json.specs.SnapshotJson.{name_json, mark_json, account_json, limits_json, snapshot_json_one, snapshot_json_two, snapshot_json, hash_in, mark_in, account_in, limits_in, sections_in, first_in, second_in, snapshot_in, json_by_prefix, data_of_snapshot, snapshot_of_data}
use Rattle.json_parts.proofs.Again.{number_again, digits_again, data_again, member_again, items_again, list_again}

flag_again : (b : Bool) → flag_in (boolean b) ≡ Ok b
unfolding flag_in
flag_again b = refl

name_again : (name : Hash32) → IsHash name → IsBytes (hash_bytes name) → hash_in (name_json name) ≡ Ok (hash_bytes name)
name_again name long are = digits_again 32 name.0 long are

mark_again : (mark : Mark) → MarkFits mark → IsBytes (mark_bytes mark) → mark_in (mark_json mark) ≡ Ok (mark_bytes mark)
unfolding mark_in known_in
mark_again mark fits are =
    let names = flat_map hash_bytes mark.messages in
    let count = to_le_bytes w32 (length mark.messages) in
    let hash = before_bytes mark.hash.0 count (before_bytes (mark.hash.0 ++ count) names are) in
    let later = after_bytes _ (mark.hash.0 ++ count) names are refl in
    rw (
      member_again (codes "hash") (digits_in 32) (mark_json mark) (hex_json mark.hash.0) mark.hash.0 refl (digits_again 32 mark.hash.0 fits.hash hash),
      member_again (codes "messages") (list_in max_transactions hash_in) (mark_json mark) (list_json name_json mark.messages) (length mark.messages, names) refl
          (list_again max_transactions hash_in name_json mark.messages names fits.few (items_again hash_in name_json hash_bytes IsHash name_again 0 mark.messages fits.names later)),
    ) refl

-- what reading asks of an account
record AccountFits (e : Key × Account) : Type 0 where
  key : IsKey e.0
  some : 1 ≤ e.1.lamports
  most : e.1.lamports ≤ 2 ^ 64 - 1
  owner : IsKey e.1.owner
  short : IsShort e.1

account_again : (e : Key × Account) → AccountFits e → IsBytes (account_bytes e) → account_in (account_json e) ≡ Ok (account_bytes e)
unfolding account_in known_in
account_again (key, account) fits are =
    let head = key.0 ++ to_le_bytes w64 account.lamports in
    let flagged = flag account.executable ∷ [] in
    let count = to_le_bytes w32 (length account.bytes) in
    let data_are = after_bytes _ (head ++ account.owner.0 ++ flagged ++ count) account.bytes are refl in
    let counted = before_bytes (head ++ account.owner.0 ++ flagged ++ count) account.bytes are in
    let with_flag = before_bytes (head ++ account.owner.0 ++ flagged) count counted in
    let owned = before_bytes (head ++ account.owner.0) flagged with_flag in
    let owner_are = after_bytes _ head account.owner.0 owned refl in
    let key_are = before_bytes key.0 (to_le_bytes w64 account.lamports) (before_bytes head account.owner.0 owned) in
    let d = account_json (key, account) in
    rw (
      member_again (codes "key") (digits_in 32) d (hex_json key.0) key.0 refl (digits_again 32 key.0 fits.key key_are),
      member_again (codes "lamports") (number_in 1 (2 ^ 64 - 1)) d (number_json account.lamports) account.lamports refl (number_again 1 (2 ^ 64 - 1) account.lamports fits.some fits.most),
      member_again (codes "owner") (digits_in 32) d (hex_json account.owner.0) account.owner.0 refl (digits_again 32 account.owner.0 fits.owner owner_are),
      member_again (codes "executable") flag_in d (boolean account.executable) account.executable refl (flag_again account.executable),
      member_again (codes "data") (data_in max_data_len) d (hex_json account.bytes) account.bytes refl (data_again max_data_len account.bytes fits.short data_are),
    ) refl

limits_again : (limits : Limits) → AreAllowed limits → limits_in (limits_json limits) ≡ Ok (limits_bytes limits)
unfolding limits_in known_in
limits_again limits fits =
    let d = limits_json limits in
    rw (
      member_again (codes "keys") (number_in 1 max_transaction_keys) d (number_json limits.keys) limits.keys refl (number_again 1 max_transaction_keys limits.keys fits.keys.0 fits.keys.1),
      member_again (codes "height") (number_in 1 max_stack_height) d (number_json limits.height) limits.height refl (number_again 1 max_stack_height limits.height fits.height.0 fits.height.1),
      member_again (codes "key_units") (number_in 1 max_block_units) d (number_json limits.key_units)
          limits.key_units refl (number_again 1 max_block_units limits.key_units fits.key_units.0
          fits.key_units.1),
      member_again (codes "block_units") (number_in 1 max_block_units) d (number_json limits.block_units)
          limits.block_units refl (number_again 1 max_block_units limits.block_units fits.block_units.0
          fits.block_units.1),
    ) refl

-- each account of a state is such
accounts_fit : (es : List (Key × Account)) → AllByRecursion (λ e. IsKey e.0) es
    → AllByRecursion (λ e. IsKey e.1.owner) es → AllByRecursion (λ e. IsHeld e.1) es
    → lamports_of es ≤ 2 ^ 64 - 1 → AllByRecursion AccountFits es
accounts_fit [] keys owners held fits = tt
accounts_fit (e ∷ es) keys owners held fits =
    let sum = sum_by-cons (λ (d : Key × Account). d.1.lamports) e es in (
      record { key = keys.0; some = held.0.0; most = omega (arith, sum); owner = owners.0; short = held.0.1 },
      accounts_fit es keys.1 owners.1 held.1 (omega (arith, sum)),
    )

-- what is asked of a snapshot that was read
record Fits (s : Snapshot) : Type 0 where
  limits : AreAllowed s.limits
  slot : s.slot ≤ 2 ^ 64 - 1
  marks : MarksFit s.recent
  few : length (entries s.accounts) ≤ max_accounts
  accounts : AllByRecursion AccountFits (entries s.accounts)

fits_from : (bytes : List ℕ) (prefix : Prefix) → BeginsWith bytes prefix → Fits prefix.snapshot
fits_from bytes prefix begins =
    let s = prefix.snapshot in
    let is = begins.readable in
    let has = begins.widths in
    record {
      limits = is.limits;
      slot = let t = has.slot in omega arith;
      marks = fits-from_recent s.recent is.recent is.messages has.hashes has.names;
      few = subst (λ n. n ≤ max_accounts) (len-entries s.accounts) is.accounts;
      accounts = accounts_fit (entries s.accounts)
          (recursion_from_All (λ e. IsKey e.0) (entries s.accounts) has.keys)
          (recursion_from_All (λ e. IsKey e.1.owner) (entries s.accounts) has.owners) is.state.held
          is.state.fits;
    }

sections_again : (s : Snapshot) (d : Data) → get (codes "recent") d ≡ Some (list_json mark_json s.recent)
    → get (codes "accounts") d ≡ Some (list_json account_json (entries s.accounts)) → Fits s
    → IsBytes (marks_bytes s.recent) → IsBytes (state_bytes s.accounts)
    → sections_in d ≡ Ok (marks_bytes s.recent ++ state_bytes s.accounts)
unfolding sections_in
sections_again s d recent accounts fits marks_are state_are =
    let es = entries s.accounts in
    let mark_count = to_le_bytes w32 (length s.recent) in
    let marks = flat_map mark_bytes s.recent in
    let count = to_le_bytes w32 (length es) in
    let all = flat_map account_bytes es in
    rw (
      member_again (codes "recent") (list_in max_marks mark_in) d (list_json mark_json s.recent) (length s.recent, marks) recent
          (list_again max_marks mark_in mark_json s.recent marks fits.marks.few
          (items_again mark_in mark_json mark_bytes MarkFits mark_again 0 s.recent fits.marks.each
          (after_bytes _ mark_count marks marks_are refl))),
      member_again (codes "accounts") (list_in max_accounts account_in) d (list_json account_json es) (length es, all) accounts
          (list_again max_accounts account_in account_json es all fits.few
          (items_again account_in account_json account_bytes AccountFits account_again 0 es fits.accounts
          (after_bytes _ count all state_are refl))),
    ) (ap Ok (append_assoc (mark_count ++ marks) count all))

slot_again : (s : Snapshot) (d : Data) → get (codes "slot") d ≡ Some (number_json s.slot) → Fits s → member_in (codes "slot") (number_in 0 (2 ^ 64 - 1)) d ≡ Ok s.slot
slot_again s d there fits = member_again (codes "slot") (number_in 0 (2 ^ 64 - 1)) d (number_json s.slot) s.slot there (number_again 0 (2 ^ 64 - 1) s.slot (omega arith) fits.slot)

first_again : (s : Snapshot) → Fits s → IsBytes (snapshot_bytes_one s) → first_in (snapshot_json_one s) ≡ Ok (snapshot_bytes_one s)
unfolding first_in known_in
first_again s fits are =
    let d = snapshot_json_one s in
    let head = codes "SOLSNAP1" ++ to_le_bytes w64 s.slot in
    let marks_are = after_bytes _ head (marks_bytes s.recent) (before_bytes (head ++ marks_bytes s.recent) (state_bytes s.accounts) are) refl in
    let state_are = after_bytes _ (head ++ marks_bytes s.recent) (state_bytes s.accounts) are refl in
    rw (slot_again s d refl fits, sections_again s d refl refl fits marks_are state_are) (ap Ok (sym (append_assoc head (marks_bytes s.recent) (state_bytes s.accounts))))

second_again : (s : Snapshot) → Fits s → IsBytes (snapshot_bytes s) → second_in (snapshot_json_two s) ≡ Ok (snapshot_bytes s)
unfolding second_in known_in
second_again s fits are =
    let d = snapshot_json_two s in
    let head = codes "SOLSNAP2" ++ to_le_bytes w64 s.slot ++ limits_bytes s.limits in
    let marks_are = after_bytes _ head (marks_bytes s.recent) (before_bytes (head ++ marks_bytes s.recent) (state_bytes s.accounts) are) refl in
    let state_are = after_bytes _ (head ++ marks_bytes s.recent) (state_bytes s.accounts) are refl in
    rw (
      slot_again s d refl fits,
      member_again (codes "limits") limits_in d (limits_json s.limits) (limits_bytes s.limits) refl (limits_again s.limits fits.limits),
      sections_again s d refl refl fits marks_are state_are,
    ) (ap Ok (sym (append_assoc head (marks_bytes s.recent) (state_bytes s.accounts))))

version_one_again : (s : Snapshot) → Fits s → IsBytes (snapshot_bytes_one s) → snapshot_in (snapshot_json (snapshot_bytes_one s) s) ≡ Ok (snapshot_bytes_one s)
unfolding snapshot_in
version_one_again s fits are = rw (member_again (codes "format") (number_in 1 2) (snapshot_json_one s) (number_json 1) 1 refl (number_again 1 2 1 (lit≤ tt) (lit≤ tt))) (first_again s fits are)

version_two_again : (s : Snapshot) → Fits s → IsBytes (snapshot_bytes s) → snapshot_in (snapshot_json (snapshot_bytes s) s) ≡ Ok (snapshot_bytes s)
unfolding snapshot_in
version_two_again s fits are = rw (member_again (codes "format") (number_in 1 2) (snapshot_json_two s) (number_json 2) 2 refl (number_again 1 2 2 (lit≤ tt) (lit≤ tt))) (second_again s fits are)

spelled_again : (s : Snapshot) (bytes : List ℕ) → Fits s → IsBytes bytes → Spells bytes s → snapshot_in (snapshot_json bytes s) ≡ Ok bytes
spelled_again s bytes fits are spells = elim spells [
  | inl two ↦ subst (λ (b : List ℕ). snapshot_in (snapshot_json b s) ≡ Ok b) (sym two) (version_two_again s fits (subst IsBytes two are))
  | inr one ↦ subst (λ (b : List ℕ). snapshot_in (snapshot_json b s) ≡ Ok b) (sym one.0) (version_one_again s fits (subst IsBytes one.0 are))
]

-- bytes that begin with a snapshot and are no longer
all_again : (bytes : List ℕ) (prefix : Prefix) → IsBytes bytes → prefix_of bytes ≡ Ok prefix → prefix.length ≡ length bytes → snapshot_of_data (snapshot_json bytes prefix.snapshot) ≡ Ok bytes
unfolding snapshot_of_data
all_again bytes prefix are read whole =
    let begins = prefix_takes bytes prefix are read in
    let taken : take prefix.length bytes ≡ bytes = ap (λ n. take n bytes) whole ∙ take_all (length bytes) bytes (omega arith) in
    let spells = subst (λ (b : List ℕ). Spells b prefix.snapshot) taken begins.spelled in
    rw (spelled_again prefix.snapshot bytes (fits_from bytes prefix begins) are spells, read) refl

pub snapshots_again : (bytes : List ℕ) (d : Data) → IsBytes bytes → data_of_snapshot bytes ≡ Ok d → snapshot_of_data d ≡ Ok bytes
unfolding data_of_snapshot
snapshots_again bytes d are shown = by_prefix (prefix_of bytes) refl shown
  where
    by_length : (prefix : Prefix) (whole : Bool) → prefix_of bytes ≡ Ok prefix
        → (prefix.length == length bytes) ≡ whole
        → (if whole then Ok (snapshot_json bytes prefix.snapshot) else Err (Trailing prefix.length))
        ≡ (let r : Read Data = Ok d in r) → snapshot_of_data d ≡ Ok bytes
    by_length prefix true read whole h =
        let same : snapshot_json bytes prefix.snapshot ≡ d = ok_same _ _ h in
        subst (λ (e : Data). snapshot_of_data e ≡ Ok bytes) same (all_again bytes prefix are read (grind (arith, nat_tests)))
    by_length prefix false read whole h = absurd (cc)

    by_prefix : (r : Result Prefix SnapshotFault) → prefix_of bytes ≡ r → json_by_prefix bytes r ≡ Ok d → snapshot_of_data d ≡ Ok bytes
    by_prefix (Ok prefix) read h = by_length prefix (prefix.length == length bytes) read refl h
    by_prefix (Err fault) read h = absurd (cc)

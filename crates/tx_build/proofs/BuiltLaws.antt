-- What is built is read as a transaction.
use Rattle.std.proofs.Common.{◌≡◌, ◌≤◌, ◌<◌, ◌+◌, ℕ, zero, suc, List, [], ◌∷◌, ◌++◌, length, map, filter, take, Some, None, Result, Ok, Err, Bool, true, false, if◌then◌else◌, ◌||◌, not, nat_lt, refl, sym, subst, length-append, arith, lit<, lit≤}
use Rattle.std.specs.Prelude.{All, unwrap_or}
use Rattle.std.specs.List.{AllByRecursion, flat_map, list_any, enumerate_from, position_or_len}
use Rattle.std.proofs.lemmas.Bool.{or_parts}
use Rattle.std.proofs.lemmas.Bool.Decides.{nat_tests}
use Rattle.std.proofs.lemmas.List.{length-map}
use Rattle.std.proofs.lemmas.List.Elements.{All-from_recursion, recursion_from_All}
use Rattle.std.proofs.lemmas.List.Sums.{count_by-le-length}
use Rattle.sha2.proofs.Facts256.{length-sha256}
use Rattle.spec_base.specs.Bytes.{max_count}
use Rattle.spec_base.specs.Sha256.{sha256}
use Rattle.spec_base.proofs.Binding.{bind_ok, ok_same}
use Rattle.sol_base.specs.declared.key.Key.{Key}
use Rattle.sol_base.specs.declared.key.Hash32.{Hash32}
use Rattle.sol_base.specs.Keys.{IsKey, same_key}
use Rattle.message_codec.specs.declared.message.Header.{Header}
use Rattle.message_codec.specs.declared.message.Message.{Message}
use Rattle.message_codec.specs.declared.message.Tx.{Tx}
use Rattle.message_codec.specs.Wire.{max_wire_len, message_name, message_bytes, tx_bytes, AllowsLookups, BeginsAsItsKind, HasWidths}
use Rattle.message_codec.specs.WireReading.{wire_of}
use Rattle.message_codec.proofs.WireLaws.{round_trips}
use Rattle.tx_build.specs.declared.draft.KeyedInstruction.{KeyedInstruction}
use Rattle.tx_build.specs.declared.draft.LookupTable.{LookupTable}
use Rattle.tx_build.specs.declared.draft.Version.{Version}
use Rattle.tx_build.specs.declared.draft.Version.TheVariants.{Legacy as first_version, Zero as version_zero}
use Rattle.tx_build.specs.declared.draft.Draft.{Draft}
use Rattle.tx_build.specs.declared.fault.BuildFault.{BuildFault}
use Rattle.tx_build.specs.declared.fault.BuildFault.TheVariants.{TooManyKeys, TooLong}
use Rattle.tx_build.specs.declared.mentions.Mention.{Mention}
use Rattle.tx_build.specs.declared.tables.Share.{Share}
use Rattle.tx_build.specs.Mentions.{account_mention, instruction_mentions, mentions_of, is_of, strongest, added, listed}
use Rattle.tx_build.specs.Classes.{is_writable_signer, is_readonly_signer, is_writable_other, is_readonly_other, keys_where, ordered_keys}
use Rattle.tx_build.specs.Tables.{holds, is_loaded, shares_of, is_used}
use Rattle.tx_build.specs.Signing.{signature_of, signer_keys, signed}
use Rattle.tx_build.specs.Built.{kind_of, tables_of, lookups_by, place_of, placed, draft_mentions, own_keys, draft_shares, keys_of, message_of, has_too_many_keys, is_long, has_long_instructions, has_long_lookups, is_long_message, sized, message_in, built}
use Rattle.tx_build.specs.Laws.{HasDraftWidths, BuiltWiresAreRead}
use Rattle.tx_build.proofs.Lengths.{short_lists}
use Rattle.spec_base.proofs.Lists.{AllByRecursion-filter, AllByRecursion-append, length-take-most}

-- ---- lists whose items are all such

mapped : {X Y : Type 0} (P : Y → Type 0) (f : X → Y) (xs : List X) → AllByRecursion (λ x. P (f x)) xs → AllByRecursion P (map f xs)
mapped P f [] h = tt
mapped P f (x ∷ xs) h = (h.0, mapped P f xs h.1)

everywhere : {X : Type 0} (P : X → Type 0) → ((x : X) → P x) → (xs : List X) → AllByRecursion P xs
everywhere P each [] = tt
everywhere P each (x ∷ xs) = (each x, everywhere P each xs)

-- ---- the keys that are mentioned

abbrev Keyed : Mention → Type 0
Keyed mention = IsKey mention.key

mentions_keyed : (is : List KeyedInstruction) → AllByRecursion (λ i. IsKey i.program) is
    → AllByRecursion (λ i. All (λ account. IsKey account.key) i.accounts) is
    → AllByRecursion Keyed (flat_map instruction_mentions is)
mentions_keyed [] programs accounts = tt
mentions_keyed (i ∷ is) programs accounts =
    let here = mapped Keyed account_mention i.accounts (recursion_from_All (λ account. IsKey account.key) i.accounts accounts.0) in
    AllByRecursion-append Keyed (instruction_mentions i) (flat_map instruction_mentions is) (programs.0, here) (mentions_keyed is programs.1 accounts.1)

merged_keyed : (all : List Mention) (n : ℕ) (ms : List Mention) → AllByRecursion Keyed ms → AllByRecursion Keyed (flat_map (added all) (enumerate_from n ms))
merged_keyed all n [] h = tt
merged_keyed all n (m ∷ ms) h = AllByRecursion-append Keyed (added all (n, m))
    (flat_map (added all) (enumerate_from (n + 1) ms)) (one (list_any (is_of m.key) (take n all)))
    (merged_keyed all (n + 1) ms h.1)
  where
    one : (b : Bool) → AllByRecursion Keyed (if b then [] else strongest all m.key ∷ [])
    one true = tt
    one false = (h.0, tt)

listed_keyed : (draft : Draft) → HasDraftWidths draft → AllByRecursion Keyed (listed draft)
unfolding listed
listed_keyed draft w =
    let programs = recursion_from_All (λ i. IsKey i.program) draft.instructions w.programs in
    let accounts = recursion_from_All (λ i. All (λ account. IsKey account.key) i.accounts) draft.instructions w.accounts in
    merged_keyed (mentions_of draft) 0 (mentions_of draft) (w.payer, mentions_keyed draft.instructions programs accounts)

own_keyed : (draft : Draft) → HasDraftWidths draft → AllByRecursion Keyed (draft_mentions draft)
unfolding draft_mentions
own_keyed draft w = AllByRecursion-filter Keyed (λ mention. not (is_loaded (tables_of draft.version) mention)) (listed draft) (listed_keyed draft w)

class_keyed : (test : Mention → Bool) (ms : List Mention) → AllByRecursion Keyed ms → AllByRecursion IsKey (keys_where test ms)
class_keyed test ms h = mapped IsKey (λ mention. mention.key) (filter test ms) (AllByRecursion-filter Keyed test ms h)

ordered_keyed : (ms : List Mention) → AllByRecursion Keyed ms → AllByRecursion IsKey (ordered_keys ms)
ordered_keyed ms h =
    let a = keys_where is_writable_signer ms in
    let b = keys_where is_readonly_signer ms in
    let c = keys_where is_writable_other ms in
    let signers = AllByRecursion-append IsKey a b (class_keyed is_writable_signer ms h) (class_keyed is_readonly_signer ms h) in
    let writable = AllByRecursion-append IsKey (a ++ b) c signers (class_keyed is_writable_other ms h) in
    AllByRecursion-append IsKey (a ++ b ++ c) (keys_where is_readonly_other ms) writable (class_keyed is_readonly_other ms h)

-- ---- places

place_below : (keys : List Key) (key : Key) → length keys ≤ 256 → place_of keys key < 256
unfolding place_of
place_below keys key few = by_test (nat_lt (position_or_len (λ k. same_key k key) keys) (length keys)) refl
  where
    by_test : (b : Bool) → nat_lt (position_or_len (λ k. same_key k key) keys) (length keys) ≡ b → unwrap_or (if b then Some (position_or_len (λ k. same_key k key) keys) else None) 0 < 256
    by_test true is =
        let below : position_or_len (λ k. same_key k key) keys < length keys = grind (arith, nat_tests) in
        omega (arith, below, few)
    by_test false is = lit< tt

programs_placed : (keys : List Key) (is : List KeyedInstruction) → length keys ≤ 256 → AllByRecursion (λ i. i.program < 256) (map (placed keys) is)
unfolding placed
programs_placed keys is few = mapped (λ i. i.program < 256) (placed keys) is (everywhere (λ (i : KeyedInstruction). place_of keys i.program < 256) (λ i. place_below keys i.program few) is)

-- ---- lookups

shares_keyed : (tables : List LookupTable) (ms : List Mention) → AllByRecursion (λ table. IsKey table.key) tables → AllByRecursion (λ share. IsKey share.lookup.table) (shares_of tables ms)
shares_keyed [] ms h = tt
shares_keyed (table ∷ tables) ms h = (h.0, shares_keyed tables (filter (λ mention. not (holds table mention)) ms) h.1)

lookups_keyed : (version : Version) (shares : List Share) → AllByRecursion (λ share. IsKey share.lookup.table) shares → AllByRecursion (λ lookup. IsKey lookup.table) (lookups_by version shares)
lookups_keyed first_version shares h = tt
lookups_keyed (version_zero tables) shares h = mapped (λ lookup. IsKey lookup.table) (λ share. share.lookup)
    (filter is_used shares) (AllByRecursion-filter (λ share. IsKey share.lookup.table) is_used shares h)

draft_keyed : (draft : Draft) → HasDraftWidths draft → AllByRecursion (λ lookup. IsKey lookup.table) (lookups_by draft.version (draft_shares draft))
unfolding draft_shares
draft_keyed draft w = lookups_keyed draft.version (draft_shares draft) (shares_keyed (tables_of draft.version) _ (recursion_from_All (λ table. IsKey table.key) (tables_of draft.version) w.tables))

allowed : (version : Version) (shares : List Share) → AllowsLookups (kind_of version) (lookups_by version shares)
allowed first_version shares = refl
allowed (version_zero tables) shares = tt

begun : (version : Version) (header : Header) → header.required < 128 → BeginsAsItsKind (kind_of version) header
begun first_version header few = few
begun (version_zero tables) header few = tt

-- ---- signatures

long_signature : (name : Hash32) (key : Key) → length name.0 ≡ 32 → length (signature_of name key).0 ≡ 64
long_signature name key long =
    let half = length-sha256 (name.0 ++ key.0) in
    let whole = length-append name.0 (sha256 (name.0 ++ key.0)) in
    omega (arith, long, half, whole)

-- ---- the transaction

-- what is known of a draft that is built
record Built (draft : Draft) (bytes : List ℕ) : Type 0 where
  few : has_too_many_keys draft ≡ false
  lists : is_long_message (message_of draft) ≡ false
  short : length bytes ≤ max_wire_len
  spelled : bytes ≡ tx_bytes (signed (message_of draft))

of_message : (draft : Draft) (too_many : Bool) (message : Message) → has_too_many_keys draft ≡ too_many
    → (let r : Result Message BuildFault = if too_many then Err TooManyKeys else Ok (message_of draft) in r)
    ≡ Ok message → (has_too_many_keys draft ≡ false) × (message_of draft ≡ message)
of_message draft true message is h = absurd (cc)
of_message draft false message is h = (is, ok_same (message_of draft) message h)

of_bytes : (message : Message) (long too : Bool) (bytes : List ℕ) → is_long_message message ≡ long → is_long (tx_bytes (signed message)) ≡ too
    → (let r : Result (List ℕ) BuildFault = if long then Err TooLong else (if too then Err TooLong else Ok (tx_bytes (signed message))) in r) ≡ Ok bytes
    → (is_long_message message ≡ false) × (is_long (tx_bytes (signed message)) ≡ false) × (tx_bytes (signed message) ≡ bytes)
of_bytes message true too bytes is over h = absurd (cc)
of_bytes message false true bytes is over h = absurd (cc)
of_bytes message false false bytes is over h = (is, over, ok_same (tx_bytes (signed message)) bytes h)

at_most : {X : Type 0} (xs : List X) → is_long xs ≡ false → length xs ≤ max_wire_len
at_most xs short = grind (arith, nat_tests)

known : (draft : Draft) (bytes : List ℕ) → built draft ≡ Ok bytes → Built draft bytes
unfolding built message_in
known draft bytes h =
    let a = bind_ok (message_in draft) sized bytes h in
    let m = of_message draft (has_too_many_keys draft) a.0 refl a.1 in
    let own : sized (message_of draft) ≡ Ok bytes = subst (λ (message : Message). sized message ≡ Ok bytes) (sym m.1) a.2 in
    let s = of_bytes (message_of draft) (is_long_message (message_of draft)) (is_long (tx_bytes (signed (message_of draft)))) bytes refl refl own in
    record {
      few = m.0;
      lists = s.0;
      short = subst (λ (l : List ℕ). length l ≤ max_wire_len) s.2 (at_most (tx_bytes (signed (message_of draft))) s.1);
      spelled = sym s.2;
    }

few_keys : (draft : Draft) → has_too_many_keys draft ≡ false → (length (draft_mentions draft) ≤ 38) × (length (keys_of draft) ≤ 256)
few_keys draft few =
    let parts = or_parts (nat_lt 38 (length (draft_mentions draft))) (nat_lt 256 (length (keys_of draft))) few in
    (below 38 (length (draft_mentions draft)) parts.0, below 256 (length (keys_of draft)) parts.1)
  where
    below : (most n : ℕ) → nat_lt most n ≡ false → n ≤ most
    below most n e = grind (arith, nat_tests)

own_keys_keyed : (draft : Draft) → HasDraftWidths draft → AllByRecursion IsKey (own_keys draft)
unfolding own_keys
own_keys_keyed draft w = ordered_keyed (draft_mentions draft) (own_keyed draft w)

widths : (draft : Draft) → HasDraftWidths draft → length (draft_mentions draft) ≤ 38 → length (keys_of draft) ≤ 256 → HasWidths (signed (message_of draft))
widths draft w own all =
    let message = message_of draft in
    let mentions = draft_mentions draft in
    let required = count_by-le-length (λ (mention : Mention). mention.signer) mentions in
    let signers = count_by-le-length is_readonly_signer mentions in
    let others = count_by-le-length is_readonly_other mentions in
    record {
      signatures = All-from_recursion (λ signature. length signature.0 ≡ 64) _
          (mapped (λ signature. length signature.0 ≡ 64) (signature_of (message_name message))
          (signer_keys message) (everywhere (λ key. length (signature_of (message_name message) key).0 ≡ 64)
          (λ key. long_signature (message_name message) key (length-sha256 (message_bytes message)))
          (signer_keys message)));
      required = omega (arith, own, required);
      readonly_signed = omega (arith, own, signers);
      readonly_unsigned = omega (arith, own, others);
      keys = All-from_recursion IsKey (own_keys draft) (own_keys_keyed draft w);
      blockhash = w.blockhash;
      programs = All-from_recursion (λ i. i.program < 256) _ (programs_placed (keys_of draft) draft.instructions all);
      tables = All-from_recursion (λ lookup. IsKey lookup.table) _ (draft_keyed draft w);
    }

countable : (draft : Draft) (n : ℕ) → is_long (own_keys draft) ≡ false → length (map (signature_of (message_name (message_of draft))) (take n (own_keys draft))) ≤ max_count
countable draft n short =
    let same = length-map (take n (own_keys draft)) (signature_of (message_name (message_of draft))) in
    let few = length-take-most n (own_keys draft) in
    let below = at_most (own_keys draft) short in
    let wide : max_wire_len ≤ max_count = lit≤ tt in
    omega (arith, same, few, below, wide)

pub built_are_read : BuiltWiresAreRead
built_are_read draft bytes w h =
    let b = known draft bytes h in
    let few = few_keys draft b.few in
    let message = message_of draft in
    let tx : Tx = signed message in
    let required = count_by-le-length (λ (mention : Mention). mention.signer) (draft_mentions draft) in
    let outer = or_parts (is_long message.keys || has_long_instructions message.instructions) (has_long_lookups message.lookups) b.lists in
    let inner = or_parts (is_long message.keys) (has_long_instructions message.instructions) outer.0 in
    let read : wire_of (tx_bytes tx) ≡ Ok tx = round_trips tx (record {
      short = subst (λ (l : List ℕ). length l ≤ max_wire_len) b.spelled b.short;
      begins = begun draft.version message.header (omega (arith, few.0, required));
      allows = allowed draft.version (draft_shares draft);
      signatures = countable draft message.header.required inner.0;
      lists = short_lists message b.lists;
      widths = widths draft w few.0 few.1;
    }) in
    (tx, subst (λ (l : List ℕ). wire_of l ≡ Ok tx) (sym b.spelled) read)

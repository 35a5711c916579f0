-- Files are read as they are written.
use Rattle.std.proofs.Common.{◌≡◌, ◌<◌, ◌≤◌, ◌^◌, ◌==◌, ℕ, List, [], ◌++◌, length, take, drop, true, if◌then◌else◌, Some, Ok, Err, refl, sym, ◌∙◌, ap, subst, arith, append_assoc, codes, length-append, take_at, drop_at, eq-eqb, le-leb, nat_le, bytes_eq}
use Rattle.std.specs.Int.{w32, w64, to_le_bytes}
use Rattle.std.specs.List.{AllByRecursion, flat_map}
use Rattle.std.proofs.lemmas.List.{append-nil}
use Rattle.std.proofs.lemmas.Slice.Eq.{bytes_eq-Decides}
use Rattle.std.proofs.lemmas.Bool.{cond-true}
use Rattle.sha2.specs.Sha256.{sha256}
use Rattle.sha2.proofs.Facts256.{length-sha256}
use Rattle.spec_base.proofs.Formats.{field_reads, read_if_reads, u32_reads, u64_reads, many_reads}
use Rattle.sol_base.specs.declared.key.Key.{Key}
use Rattle.sol_base.specs.Keys.{IsKey, key_bytes}
use Rattle.format_fields.proofs.FieldLaws.{key_reads}
use Rattle.snapshot_codec.specs.declared.snapshot.Snapshot.{Snapshot}
use Rattle.snapshot_codec.specs.Snapshot.{snapshot_bytes, IsReadable, HasWidths}
use Rattle.snapshot_codec.proofs.SnapshotLaws.{round_trips}
use Rattle.ledger_folder.specs.declared.name.Name.{Name}
use Rattle.ledger_folder.specs.declared.name.Name.TheVariants.{Chain, State, Changes as changes_name}
use Rattle.ledger_store.specs.declared.changes.Changes.{Changes}
use Rattle.ledger_store.specs.declared.fault.FieldFault.TheVariants.{Field}
use Rattle.ledger_store.specs.declared.fault.LedgerFault.TheVariants.{Damaged}
use Rattle.ledger_store.specs.Seal.{sealed, seal_at, body_of}
use Rattle.ledger_store.specs.Heads.{every_at, head_at, head_bytes, head_from, head_in, head_of, magic_at}
use Rattle.ledger_store.specs.States.{front_in, ok_at_slot, whole_state, state_from, state_in}
use Rattle.ledger_store.specs.Changes.{before_at, gone_bytes, changes_bytes, gone_at, gone_of, whole_changes, changes_from, changes_in}

-- what is sealed has its own hash at its end
pub unsealed : (name : Name) (body : List ℕ) → body_of name (sealed body) ≡ Ok body
unfolding body_of
unsealed name body = at_place (seal_at (sealed body)) (omega (arith, length-append body (sha256 body), length-sha256 body))
  where
    same : bytes_eq (sha256 body) (sha256 body) ≡ true
    same = (bytes_eq-Decides (sha256 body) (sha256 body)).1 refl

    at_place : (n : ℕ) → length body ≡ n → (if bytes_eq (sha256 (take n (sealed body))) (drop n (sealed body)) then Ok (take n (sealed body)) else Err (Damaged name n)) ≡ Ok body
    at_place n e = rw (take_at body (sha256 body) n e, drop_at body (sha256 body) n e, same) refl

-- a value at its own slot
pub at_slot : {X : Type 0} (name : Name) (slot told : ℕ) (x : X) → told ≡ slot → ok_at_slot name slot told x ≡ Ok x
at_slot name slot told x e = cond-true (told == slot) (Ok x) (Err (Damaged name 8)) (eq-eqb told slot e)

front : (name : Name) (s : Snapshot) (rest : List ℕ) → IsReadable s → HasWidths s → front_in name (snapshot_bytes s ++ rest) ≡ Ok (record { snapshot = s; length = length (snapshot_bytes s) })
unfolding front_in
front name s rest is has = rw (round_trips s rest is has) refl

pub state_again : (slot : ℕ) (s : Snapshot) → IsReadable s → HasWidths s → s.slot ≡ slot → state_in slot (Some (sealed (snapshot_bytes s))) ≡ Ok s
unfolding state_from whole_state
state_again slot s is has e =
    let begins : front_in (State slot) (snapshot_bytes s) ≡ Ok (record { snapshot = s; length = length (snapshot_bytes s) }) =
    subst (λ (b : List ℕ). front_in (State slot) b ≡ Ok (record { snapshot = s; length = length (snapshot_bytes s) })) (append-nil (snapshot_bytes s)) (front (State slot) s [] is has) in
    rw (unsealed (State slot) (snapshot_bytes s), begins, at_slot (State slot) slot s.slot s e, eq-eqb (length (snapshot_bytes s)) (length (snapshot_bytes s)) refl) refl

gone_again : (before total : ℕ) (keys : List Key) → before < 2 ^ 64 → length keys < 2 ^ 32 → AllByRecursion IsKey keys → gone_of before total (to_le_bytes w64 before ++ gone_bytes keys) ≡ Ok keys
unfolding gone_of gone_at before_at
gone_again before total keys fits few are =
    let behind : flat_map key_bytes keys ++ [] ≡ flat_map key_bytes keys = append-nil (flat_map key_bytes keys) in
    rw (
      (read_if_reads Field (λ n. n == before) total (u64_reads Field total)).again before (gone_bytes keys)
          (fits, eq-eqb before before refl),
      (u32_reads Field total).again (length keys) (flat_map key_bytes keys)
          few,
      ← behind,
      (many_reads (key_reads Field total) (length keys)).again keys [] (refl, are),
    ) refl

pub changes_again : (slot before : ℕ) (c : Changes) → IsReadable c.left → HasWidths c.left
    → length c.gone < 2 ^ 32 → AllByRecursion IsKey c.gone → before < 2 ^ 64 → c.left.slot ≡ slot
    → changes_in slot before (Some (sealed (changes_bytes before c))) ≡ Ok c
unfolding changes_from whole_changes
changes_again slot before c is has few are fits e =
    rw (
      unsealed (changes_name slot) (changes_bytes before c),
      front (changes_name slot) c.left (to_le_bytes w64 before ++ gone_bytes c.gone) is has,
      at_slot (changes_name slot) slot c.left.slot c.left e,
      drop_at (snapshot_bytes c.left) (to_le_bytes w64 before ++ gone_bytes c.gone) (length (snapshot_bytes c.left)) refl,
      gone_again before (length (changes_bytes before c)) c.gone fits few are,
    ) refl

-- what a chain is
head_fields : (total every start : ℕ) → 1 ≤ every → every < 2 ^ 32 → start < 2 ^ 64 → head_at total (head_bytes every start) ≡ Ok ((every, start), [])
unfolding head_at magic_at every_at
head_fields total every start some few fits =
    let front : head_bytes every start ≡ codes "SOLCHAN1" ++ (to_le_bytes w32 every ++ (to_le_bytes w64 start ++ [])) =
    append_assoc (codes "SOLCHAN1") (to_le_bytes w32 every) (to_le_bytes w64 start)
    ∙ ap (λ (l : List ℕ). codes "SOLCHAN1" ++ (to_le_bytes w32 every ++ l))
    (sym (append-nil (to_le_bytes w64 start))) in
    subst (λ (b : List ℕ). head_at total b ≡ Ok ((every, start), [])) (sym front)
    (rw (
      (read_if_reads Field (λ (magic : List ℕ). bytes_eq magic (codes "SOLCHAN1")) total
          (field_reads Field total 8)).again (codes "SOLCHAN1")
          (to_le_bytes w32 every ++ (to_le_bytes w64 start ++ [])) (refl, refl),
      (read_if_reads Field (λ n. nat_le 1 n) total (u32_reads Field total)).again every (to_le_bytes w64 start ++ []) (few, le-leb 1 every some),
      (u64_reads Field total).again start [] fits,
    ) refl)

pub head_again : (every start : ℕ) → 1 ≤ every → every < 2 ^ 32 → start < 2 ^ 64 → head_in (Some (sealed (head_bytes every start))) ≡ Ok (every, start)
unfolding head_from head_of
head_again every start some few fits = rw (unsealed Chain (head_bytes every start), head_fields (length (head_bytes every start)) every start some few fits) refl

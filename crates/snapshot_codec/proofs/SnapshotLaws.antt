-- Snapshots: what is spelled is read again, and what is read is spelled so.
use Rattle.std.proofs.Common.{◌≡◌, ◌<◌, ◌≤◌, ◌-◌, ◌^◌, inl, inr, ℕ, List, ◌++◌, length, take, drop, Result, Ok, Err, refl, sym, ap, subst, ◌∙◌, append_assoc, lit≤, arith, length-drop}
use Rattle.std.specs.Prelude.{IfOk, codes}
use Rattle.std.specs.Int.{w64, to_le_bytes}
use Rattle.std.specs.FinMap.{len-entries}
use Rattle.std.proofs.Math.Seq.{take-append_seam}
use Rattle.std.proofs.lemmas.List.{length-append, take-append-drop}
use Rattle.std.proofs.lemmas.List.Elements.{All-from_recursion, recursion_from_All}
use Rattle.spec_base.specs.Bytes.{IsBytes}
use Rattle.spec_base.specs.Reading.{Gives, place}
use Rattle.spec_base.proofs.Binding.{bind_ok, ok_parts, ok_same, after_bytes, onward, follows}
use Rattle.spec_base.proofs.Formats.{by_taking}
use Rattle.sol_base.specs.declared.limits.Limits.{Limits}
use Rattle.sol_base.specs.Keys.{IsKey, IsHash}
use Rattle.sol_base.specs.Limits.{first_limits}
use Rattle.status_cache.specs.declared.recent.Mark.{Mark}
use Rattle.account_store.specs.State.{State, entries}
use Rattle.snapshot_codec.specs.declared.fault.SnapshotFault.{SnapshotFault}
use Rattle.snapshot_codec.specs.declared.snapshot.Snapshot.{Snapshot}
use Rattle.snapshot_codec.specs.declared.snapshot.Prefix.{Prefix}
use Rattle.snapshot_codec.specs.Snapshot.{limits_bytes, marks_bytes, state_bytes, snapshot_bytes, snapshot_bytes_one, AreAllowed, IsReadable, HasWidths, Spells, BeginsWith, max_accounts}
use Rattle.snapshot_codec.specs.SnapshotReading.{Read, is_snapshot_memory, head_at, snapshot_at, prefix_of}
use Rattle.snapshot_codec.specs.Laws.{SnapshotRoundTrip, FirstVersionRead, ReadableWritten}
use Rattle.snapshot_codec.proofs.HeadLaws.{IsHead, head_takes, head_one_again, head_two_again}
use Rattle.snapshot_codec.proofs.MarkLaws.{MarkFits, MarksFit, marks_reads, recent-from_fits, fits-from_recent}
use Rattle.snapshot_codec.proofs.AccountLaws.{StateFits, state_reads}

pub record SnapshotFits (s : Snapshot) : Type 0 where
  pub limits : AreAllowed s.limits
  pub slot : s.slot < 2 ^ 64
  pub marks : MarksFit s.recent
  pub state : StateFits s.accounts

one_again : (total slot : ℕ) (marks : List Mark) (state : State) (rest : List ℕ) → slot < 2 ^ 64 → MarksFit marks → StateFits state
    → snapshot_at total (codes "SOLSNAP1" ++ to_le_bytes w64 slot ++ marks_bytes marks ++ state_bytes state
    ++ rest) ≡ Ok (record { slot = slot; limits = first_limits; recent = marks; accounts = state }, rest)
unfolding snapshot_at
one_again total slot marks state rest fits marks_fit state_fit =
    let after = state_bytes state ++ rest in
    let front : codes "SOLSNAP1" ++ to_le_bytes w64 slot ++ marks_bytes marks ++ state_bytes state ++ rest ≡ codes "SOLSNAP1" ++ to_le_bytes w64 slot ++ (marks_bytes marks ++ after) =
    append_assoc (codes "SOLSNAP1" ++ to_le_bytes w64 slot ++ marks_bytes marks) (state_bytes state) rest ∙ append_assoc (codes "SOLSNAP1" ++ to_le_bytes w64 slot) (marks_bytes marks) after in
    subst (λ (b : List ℕ). snapshot_at total b ≡ Ok (record { slot = slot; limits = first_limits; recent = marks; accounts = state }, rest)) (sym front)
    (rw (head_one_again total slot (marks_bytes marks ++ after) fits, (marks_reads total).again marks after marks_fit, (state_reads total).again state rest state_fit) refl)

two_again : (total slot : ℕ) (limits : Limits) (marks : List Mark) (state : State) (rest : List ℕ) → slot < 2 ^ 64 → AreAllowed limits → MarksFit marks → StateFits state
    → snapshot_at total (codes "SOLSNAP2" ++ to_le_bytes w64 slot ++ limits_bytes limits ++ marks_bytes marks
    ++ state_bytes state ++ rest)
    ≡ Ok (record { slot = slot; limits = limits; recent = marks; accounts = state }, rest)
unfolding snapshot_at
two_again total slot limits marks state rest fits allowed marks_fit state_fit =
    let after = state_bytes state ++ rest in
    let head = codes "SOLSNAP2" ++ to_le_bytes w64 slot ++ limits_bytes limits in
    let front : head ++ marks_bytes marks ++ state_bytes state ++ rest ≡ head ++ (marks_bytes marks ++ after) =
    append_assoc (head ++ marks_bytes marks) (state_bytes state) rest ∙ append_assoc head (marks_bytes marks) after in
    subst (λ (b : List ℕ). snapshot_at total b ≡ Ok (record { slot = slot; limits = limits; recent = marks; accounts = state }, rest)) (sym front)
    (rw (head_two_again total slot limits (marks_bytes marks ++ after) fits allowed, (marks_reads total).again marks after marks_fit, (state_reads total).again state rest state_fit) refl)

snapshot_again : (total : ℕ) (s : Snapshot) (text rest : List ℕ) → SnapshotFits s → Spells text s → snapshot_at total (text ++ rest) ≡ Ok (s, rest)
snapshot_again total s text rest fits spells =
    elim spells [
      | inl two ↦
          let read = two_again total s.slot s.limits s.recent s.accounts rest fits.slot fits.limits fits.marks fits.state in
          subst (λ (b : List ℕ). snapshot_at total (b ++ rest) ≡ Ok (s, rest)) (sym two) read
      | inr one ↦
          let read = one_again total s.slot s.recent s.accounts rest fits.slot fits.marks fits.state in
          let here = subst (λ (b : List ℕ). snapshot_at total (b ++ rest) ≡ Ok (record { slot = s.slot; limits = first_limits; recent = s.recent; accounts = s.accounts }, rest)) (sym one.0) read in
          here ∙ ap (λ (l : Limits). let r : Read Snapshot = Ok (record { slot = s.slot; limits = l; recent = s.recent; accounts = s.accounts }, rest) in r) (sym one.1)
    ]

-- the bytes are a spelling of the snapshot, and then the rest
record IsRead (bytes : List ℕ) (s : Snapshot) (rest : List ℕ) : Type 0 where
  text : List ℕ
  fits : SnapshotFits s
  spells : Spells text s
  split : bytes ≡ text ++ rest

snapshot_takes : (total : ℕ) (bytes : List ℕ) (s : Snapshot) (rest : List ℕ) → IsBytes bytes → snapshot_at total bytes ≡ Ok (s, rest) → IsRead bytes s rest
unfolding snapshot_at
snapshot_takes total bytes s rest are h =
    let a = bind_ok (head_at total bytes) _ (s, rest) h in
    let head = head_takes total bytes a.0.0 a.0.1 are a.1 in
    by_taking (marks_reads total) _ a.0.1 (s, rest) (after_head a.0.0 a.0.1 head) a.2 (λ marks r2 f2 e2 b2 g2.
    by_taking (state_reads total) _ r2 (s, rest) b2 g2 (λ state r3 f3 e3 b3 g3.
    let p = ok_parts _ _ _ _ g3 in
    subst (λ (v : Snapshot). IsRead bytes v rest) p.0 (whole a.0.0 a.0.1 head marks r2 f2 e2 state f3 (onward (state_bytes state) e3 p.1))))
  where
    after_head : (head : ℕ × Limits) (r : List ℕ) → IsHead bytes head r → IsBytes r
    after_head head r is = elim is.spelled [
      | inl one ↦ after_bytes bytes (codes "SOLSNAP1" ++ to_le_bytes w64 head.0) r are one.0
      | inr two ↦ after_bytes bytes (codes "SOLSNAP2" ++ to_le_bytes w64 head.0 ++ limits_bytes head.1) r are two.0
    ]

    first_allowed : AreAllowed first_limits
    first_allowed = record { keys = (lit≤ tt, lit≤ tt); height = (lit≤ tt, lit≤ tt); key_units = (lit≤ tt, lit≤ tt); block_units = (lit≤ tt, lit≤ tt) }

    whole : (head : ℕ × Limits) (r : List ℕ) → IsHead bytes head r → (marks : List Mark) (r2 : List ℕ)
        → MarksFit marks → r ≡ marks_bytes marks ++ r2 → (state : State) → StateFits state
        → r2 ≡ state_bytes state ++ rest
        → IsRead bytes (record { slot = head.0; limits = head.1; recent = marks; accounts = state }) rest
    whole head r is marks r2 marks_fit e2 state state_fit e3 =
        elim is.spelled [
          | inl one ↦
              let front = codes "SOLSNAP1" ++ to_le_bytes w64 head.0 in
              record {
                text = front ++ marks_bytes marks ++ state_bytes state;
                fits = record { limits = subst AreAllowed (sym one.1) first_allowed; slot = is.slot; marks = marks_fit; state = state_fit };
                spells = inr (refl, one.1);
                split = follows (front ++ marks_bytes marks) (state_bytes state) rest (follows front (marks_bytes marks) r2 one.0 e2) e3;
              }
          | inr two ↦
              let front = codes "SOLSNAP2" ++ to_le_bytes w64 head.0 ++ limits_bytes head.1 in
              record {
                text = front ++ marks_bytes marks ++ state_bytes state;
                fits = record { limits = two.1; slot = is.slot; marks = marks_fit; state = state_fit };
                spells = inl refl;
                split = follows (front ++ marks_bytes marks) (state_bytes state) rest (follows front (marks_bytes marks) r2 two.0 e2) e3;
              }
        ]

-- what reading asks of a snapshot, and what the format and the types say

readable : (s : Snapshot) → SnapshotFits s → IsReadable s
readable s fits =
    let each = All-from_recursion MarkFits s.recent fits.marks.each in
    record {
      limits = fits.limits;
      recent = recent-from_fits s.recent fits.marks;
      messages = λ k d lt.
          (each k d lt).few;
      state = fits.state.is_state;
      accounts = subst (λ n. n ≤ max_accounts)
          (sym (len-entries s.accounts)) fits.state.few;
    }

widths : (s : Snapshot) → SnapshotFits s → HasWidths s
widths s fits =
    let each = All-from_recursion MarkFits s.recent fits.marks.each in
    record {
      slot = fits.slot;
      hashes = λ k d lt. (each k d lt).hash;
      names = λ k d lt. All-from_recursion IsHash _ (each k d lt).names;
      keys = All-from_recursion (λ e. IsKey e.0) (entries s.accounts) fits.state.keys;
      owners = All-from_recursion (λ e. IsKey e.1.owner) (entries s.accounts) fits.state.owners;
    }

fits_reading : (s : Snapshot) → IsReadable s → HasWidths s → SnapshotFits s
fits_reading s is has = record {
  limits = is.limits;
  slot = has.slot;
  marks = fits-from_recent s.recent is.recent is.messages has.hashes has.names;
  state = record {
    few = subst (λ n. n ≤ max_accounts) (len-entries s.accounts) is.accounts;
    is_state = is.state;
    keys = recursion_from_All (λ e. IsKey e.0) (entries s.accounts) has.keys;
    owners = recursion_from_All (λ e. IsKey e.1.owner) (entries s.accounts) has.owners;
  };
}

-- prefixes

seam : (bytes text rest : List ℕ) → bytes ≡ text ++ rest → place (length bytes) rest ≡ length text
seam bytes text rest e = omega (arith, ap length e, length-append text rest)

pub prefix_takes : (bytes : List ℕ) (prefix : Prefix) → IsBytes bytes → prefix_of bytes ≡ Ok prefix → BeginsWith bytes prefix
unfolding prefix_of
prefix_takes bytes prefix are h =
    let a = bind_ok (snapshot_at (length bytes) bytes) _ prefix h in
    let is = snapshot_takes (length bytes) bytes a.0.0 a.0.1 are a.1 in
    subst (BeginsWith bytes) (ok_same _ _ a.2) (begins a.0.0 a.0.1 is)
  where
    begins : (s : Snapshot) (rest : List ℕ) → IsRead bytes s rest → BeginsWith bytes (record { snapshot = s; length = place (length bytes) rest })
    begins s rest is =
        let e = seam bytes is.text rest is.split in
        let text : take (place (length bytes) rest) bytes ≡ is.text = ap (λ n. take n bytes) e ∙ ap (λ (l : List ℕ). take (length is.text) l) is.split ∙ take-append_seam is.text rest in
        record {
          within = omega arith;
          spelled = subst (λ (l : List ℕ). Spells l s) (sym text) is.spells;
          readable = readable s is.fits;
          widths = widths s is.fits;
        }

pub prefix_again : (bytes : List ℕ) (prefix : Prefix) → BeginsWith bytes prefix → prefix_of bytes ≡ Ok prefix
unfolding prefix_of
prefix_again bytes prefix begins =
    let text = take prefix.length bytes in
    let rest = drop prefix.length bytes in
    let split : text ++ rest ≡ bytes = take-append-drop prefix.length bytes in
    let read : snapshot_at (length bytes) bytes ≡ Ok (prefix.snapshot, rest) =
    subst (λ (b : List ℕ). snapshot_at (length bytes) b ≡ Ok (prefix.snapshot, rest)) split
    (snapshot_again (length bytes) prefix.snapshot text rest (fits_reading prefix.snapshot begins.readable begins.widths) begins.spelled) in
    let long : length bytes - length rest ≡ prefix.length = let t = begins.within in omega (arith, length-drop prefix.length bytes) in
    rw read (ap (λ n. let r : Result Prefix SnapshotFault = Ok (record { snapshot = prefix.snapshot; length = n }) in r) long)

pub is_found : (bytes : List ℕ) (result : Result Prefix SnapshotFault) → IsBytes bytes → Gives is_snapshot_memory (λ v. v) result (prefix_of bytes) → IfOk result (λ prefix. BeginsWith bytes prefix)
is_found bytes (Ok prefix) are h = prefix_takes bytes prefix are h
is_found bytes (Err e) are h = tt

pub is_only : (bytes : List ℕ) (result : Result Prefix SnapshotFault)
    → Gives is_snapshot_memory (λ v. v) result (prefix_of bytes) → (prefix : Prefix) → BeginsWith bytes prefix
    → Gives is_snapshot_memory (λ v. v) result (Ok prefix)
is_only bytes result h prefix begins = subst (Gives is_snapshot_memory (λ v. v) result) (prefix_again bytes prefix begins) h

-- what is written is read again

spelled_again : (s : Snapshot) (text rest : List ℕ) → Spells text s → IsReadable s → HasWidths s → prefix_of (text ++ rest) ≡ Ok (record { snapshot = s; length = length text })
spelled_again s text rest spells is has =
    prefix_again (text ++ rest) (record { snapshot = s; length = length text }) (record {
      within = omega (arith, length-append text rest);
      spelled = subst (λ (l : List ℕ). Spells l s) (sym (take-append_seam text rest)) spells;
      readable = is;
      widths = has;
    })

pub round_trips : SnapshotRoundTrip
round_trips s rest is has = spelled_again s (snapshot_bytes s) rest (inl refl) is has

pub first_version_read : FirstVersionRead
first_version_read s rest first is has = spelled_again s (snapshot_bytes_one s) rest (inr (refl, first)) is has

pub readable_written : ReadableWritten
readable_written s is = record {
  limits = is.limits;
  messages = λ k d lt. let few = is.messages k d lt in omega arith;
  accounts = let few = is.accounts in omega arith;
}

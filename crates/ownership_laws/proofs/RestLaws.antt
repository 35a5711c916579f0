-- An account whose owner does not run over it keeps all but the fees.
use Rattle.std.proofs.Common.{◌≡◌, inl, inr, ◌≤◌, ◌+◌, ◌==◌, ◌∷◌, [], ◌++◌, ℕ, Bool, true, false, not, cond, ◌&&◌, List, length, map, Option, Some, None, refl, sym, ap, subst, ◌∙◌, arith}
use Rattle.std.specs.Prelude.{unwrap_or}
use Rattle.std.specs.List.{AllByRecursion, enumerate_from, flat_map, zip}
use Rattle.std.proofs.lemmas.Bool.{and_from, and_parts, eqb-true}
use Rattle.std.proofs.lemmas.List.{nil_from_length}
use Rattle.std.proofs.lemmas.List.Elements.{recursion_from_All}
use Rattle.std.proofs.lemmas.List.Sums.{sum_by-append, sum_by-cons}
use Rattle.spec_base.proofs.Lists.{AllByRecursion-append}
use Rattle.sol_base.specs.declared.key.Key.{Key}
use Rattle.sol_base.specs.declared.key.TheConstants.{LOADER_PROGRAM, SYSTEM_PROGRAM}
use Rattle.sol_base.specs.declared.account.Account.{Account}
use Rattle.sol_base.specs.Accounts.{empty_account}
use Rattle.sol_base.specs.Keys.{has_key, same_key}
use Rattle.sol_base.proofs.KeyLaws.{same_key-true}
use Rattle.account_rules.specs.KeptAccounts.{IsForeignKept}
use Rattle.account_rules.specs.Wallets.{is_wallet}
use Rattle.account_rules.proofs.Foreign.{IsForeignKept-same}
use Rattle.account_store.specs.State.{at, settled}
use Rattle.tx_report.specs.declared.status.Status.{Status}
use Rattle.tx_report.specs.declared.status.Status.TheVariants.{Good, Failed, Dropped}
use Rattle.bank_law.specs.Lawful.{IsSettled}
use Rattle.bank_law.proofs.States.{at_fits}
use Rattle.loader_prog.specs.Buffers.{candidate_in, is_final, is_verified, rest_in}
use Rattle.loader_prog.specs.Loader.{activated, active, is_ready}
use Rattle.message_codec.specs.Roles.{all_keys}
use Rattle.snapshot_codec.specs.declared.batch.Batch.{Batch}
use Rattle.snapshot_codec.specs.declared.snapshot.Snapshot.{Snapshot}
use Rattle.block_record.specs.declared.block.Entry.{Entry}
use Rattle.admission.specs.declared.chosen.Chosen.{Chosen}
use Rattle.tx_exec.specs.Payer.{less}
use Rattle.block_end.specs.BlockEnd.{more}
use Rattle.block_run.specs.Blocks.{block_result}
use Rattle.block_laws.specs.Keeping.{order_of}
use Rattle.entry_laws.specs.Left.{paid_to}
use Rattle.entry_laws.specs.Owners.{stretches_at}
use Rattle.entry_laws.specs.Stretches.{Stretch}
use Rattle.ownership_laws.specs.Steps.{Accounts, IsPath, Makes, PaysFee, RunsOver, Step, Pays, Runs, Clears, Ends}
use Rattle.ownership_laws.specs.Blocks.{payment, steps_at, steps_by, steps_of}
use Rattle.ownership_laws.specs.Rest.{AccountsAtRestAreKept, IsKeptBut, Rests, fee_by, fees_by, is_final_buffer}
use Rattle.ownership_laws.proofs.BlockPaths.{ends_so, entries_path, entry_steps, last_of}

-- ---- what is kept up to a step
-- An account keeps owner and data, and its lamports but for the fees. One with no lamports has the
-- owner and the data of the empty account.
record Keeps (was now : Account) (fees : ℕ) : Type 0 where
  owner : now.owner ≡ was.owner
  bytes : now.bytes ≡ was.bytes
  lamports : was.lamports ≤ now.lamports + fees
  blank : now.lamports ≡ 0 → (now.owner ≡ empty_account.owner) × (now.bytes ≡ empty_account.bytes)

begins : (was : Account) → IsSettled was → Keeps was was 0
begins was fine = record {
  owner = refl;
  bytes = refl;
  lamports = omega arith;
  blank = λ none. (ap (λ (a : Account). a.owner) (fine none), ap (λ (a : Account). a.bytes) (fine none));
}

-- a wallet has the owner and the data of the empty account
wallet_is_blank : (a : Account) → is_wallet a ≡ true → (a.owner ≡ empty_account.owner) × (a.bytes ≡ empty_account.bytes)
wallet_is_blank a wallet =
    let both = and_parts (same_key a.owner SYSTEM_PROGRAM && not a.executable) (length a.bytes == 0) wallet in
    let first = and_parts (same_key a.owner SYSTEM_PROGRAM) (not a.executable) both.0 in
    (same_key-true a.owner SYSTEM_PROGRAM first.0, nil_from_length a.bytes (eqb-true (length a.bytes) 0 both.1))

through_fee : (key payer : Key) (fee fees : ℕ) (was : Account) (before after : Accounts) → PaysFee payer fee before after → Keeps was (before key) fees → Keeps was (after key) (fees + fee_by key (Pays payer fee))
through_fee key payer fee fees was before after pays kept = by_payer (same_key key payer) refl (pays.same key)
  where
    charged : same_key key payer ≡ true → Keeps was (less (before key) fee) (fees + fee)
    charged same = let least = kept.lamports in record {
      owner = kept.owner;
      bytes = kept.bytes;
      lamports = omega (arith, least);
      blank = λ none. wallet_is_blank (before key) (ap (λ (k : Key). is_wallet (before k)) (same_key-true key payer same) ∙ pays.wallet);
    }

    by_payer : (b : Bool) → same_key key payer ≡ b → after key ≡ cond b (less (before key) fee) (before key) → Keeps was (after key) (fees + cond b fee 0)
    by_payer true same is = subst (λ (a : Account). Keeps was a (fees + fee)) (sym is) (charged same)
    by_payer false same is = let none : fees ≡ fees + 0 = omega arith in subst (λ (n : ℕ). Keeps was (after key) n) none (subst (λ (a : Account). Keeps was a fees) (sym is) kept)

-- by what a stretch keeps of it
through_kept : (fees : ℕ) (was before after : Account) → IsForeignKept before after → Keeps was before fees → Keeps was after (fees + 0)
through_kept fees was before after is kept =
    let least = kept.lamports in
    let rose = is.lamports in
    record {
      owner = is.owner ∙ kept.owner;
      bytes = is.bytes ∙ kept.bytes;
      lamports = omega (arith, least, rose);
      blank = λ none. let was_none = kept.blank (omega (arith, none, rose)) in (is.owner ∙ was_none.0, is.bytes ∙ was_none.1);
    }

through_run : (key : Key) (keys : List Key) (x : Stretch) (fees : ℕ) (was : Account) (before after : Accounts) → RunsOver keys x before after → Rests key was.owner (Runs keys x)
    → Keeps was (before key) fees → Keeps was (after key) (fees + 0)
through_run key keys x fees was before after ran rests kept = through_kept fees was (before key) (after key) (by_place (has_key key keys) refl) kept
  where
    by_place : (b : Bool) → has_key key keys ≡ b → IsForeignKept (before key) (after key)
    by_place true has = ran.foreign key (ap (λ (owner : Key). same_key owner x.program) kept.owner ∙ rests has)
    by_place false none = IsForeignKept-same (before key) (after key) (sym (ran.others key none))

through_clearing : (fees : ℕ) (was before after : Account) → after ≡ settled before → Keeps was before fees → Keeps was after (fees + 0)
through_clearing fees was before after is kept = subst (λ (a : Account). Keeps was a (fees + 0)) (sym is) (by_case (before.lamports == 0) refl)
  where
    by_case : (b : Bool) → (before.lamports == 0) ≡ b → Keeps was (cond b empty_account before) (fees + 0)
    by_case true e =
        let none : before.lamports ≡ 0 = eqb-true before.lamports 0 e in
        let blank = kept.blank none in
        let least = kept.lamports in
        record { owner = sym blank.0 ∙ kept.owner; bytes = sym blank.1 ∙ kept.bytes; lamports = omega (arith, least, none); blank = λ _. (refl, refl) }
    by_case false e = let least = kept.lamports in record { owner = kept.owner; bytes = kept.bytes; lamports = omega (arith, least); blank = kept.blank }

-- a step of an entry
abbrev IsOfAnEntry : Step → Type 0
IsOfAnEntry (Pays payer fee) = Unit {0}
IsOfAnEntry (Runs keys x) = Unit {0}
IsOfAnEntry Clears = Unit {0}
IsOfAnEntry (Ends collector collected) = ⊥

through_step : (key : Key) (step : Step) (fees : ℕ) (was : Account) (before after : Accounts) → Makes step before after → IsOfAnEntry step → Rests key was.owner step
    → Keeps was (before key) fees → Keeps was (after key) (fees + fee_by key step)
through_step key (Pays payer fee) fees was before after makes is rests kept = through_fee key payer fee fees was before after makes kept
through_step key (Runs keys x) fees was before after makes is rests kept = through_run key keys x fees was before after makes rests kept
through_step key Clears fees was before after makes is rests kept = through_clearing fees was (before key) (after key) (makes key) kept
through_step key (Ends collector collected) fees was before after makes is rests kept = absurd is

through_all : (key : Key) (steps : List Step) (fees : ℕ) (was : Account) (first last : Accounts) → IsPath first steps last → AllByRecursion IsOfAnEntry steps
    → AllByRecursion (Rests key was.owner) steps → Keeps was (first key) fees → Keeps was (last key) (fees + fees_by key steps)
through_all key [] fees was first last path is rests kept =
    let none : fees ≡ fees + 0 = omega arith in
    subst (λ (n : ℕ). Keeps was (last key) n) none (subst (λ (f : Accounts). Keeps was (f key) fees) path kept)
through_all key (step ∷ steps) fees was first last path is rests kept =
    let one = sum_by-cons (fee_by key) step steps in
    let sums : (fees + fee_by key step) + fees_by key steps ≡ fees + fees_by key (step ∷ steps) = omega (arith, one) in
    subst (λ (n : ℕ). Keeps was (last key) n) sums
    (through_all key steps (fees + fee_by key step) was path.next last path.on is.1 rests.1 (through_step key step fees was first path.next path.makes is.0 rests.0 kept))

-- ---- the steps of entries
payments_are : (keys : List Key) (fee : ℕ) → AllByRecursion IsOfAnEntry (payment keys fee)
payments_are [] fee = tt
payments_are (payer ∷ others) fee = (tt, tt)

runs_are : (keys : List Key) (parts : List Stretch) → AllByRecursion IsOfAnEntry (map (Runs keys) parts)
runs_are keys [] = tt
runs_are keys (x ∷ xs) = (tt, runs_are keys xs)

steps_are : (keys : List Key) (fee : ℕ) (parts : List Stretch) (status : Status) → AllByRecursion IsOfAnEntry (steps_by keys fee parts status)
steps_are keys fee parts Good =
    AllByRecursion-append IsOfAnEntry (payment keys fee) (map (Runs keys) parts ++ Clears ∷ []) (payments_are keys fee)
    (AllByRecursion-append IsOfAnEntry (map (Runs keys) parts) (Clears ∷ []) (runs_are keys parts) (tt, tt))
steps_are keys fee parts (Failed index cause detail) = AllByRecursion-append IsOfAnEntry (payment keys fee) (Clears ∷ []) (payments_are keys fee) (tt, tt)
steps_are keys fee parts (Dropped cause) = tt

all_are : (s : Snapshot) (batch : Batch) (es : List (ℕ × (Chosen × Entry))) → AllByRecursion IsOfAnEntry (flat_map (steps_at s batch) es)
all_are s batch [] = tt
all_are s batch (e ∷ es) =
    AllByRecursion-append IsOfAnEntry (steps_at s batch e) (flat_map (steps_at s batch) es)
    (steps_are (all_keys e.1.0.tx.message e.1.0.loaded) e.1.1.fee (stretches_at s batch e.0 e.1.0) e.1.1.status) (all_are s batch es)

-- what holds of two lists holds of the first
all_first : (P : Step → Type 0) (xs ys : List Step) → AllByRecursion P (xs ++ ys) → AllByRecursion P xs
all_first P [] ys all = tt
all_first P (x ∷ xs) ys all = (all.0, all_first P xs ys all.1)

-- ---- the end of a block
paid_keeps : (collector : Key) (collected : ℕ) (key : Key) (fees : ℕ) (was now : Account) → Keeps was now fees → Keeps was (paid_to collector collected key now) fees
paid_keeps collector collected key fees was now kept = by_case (same_key key collector)
  where
    by_case : (b : Bool) → Keeps was (cond b (more now collected) now) fees
    by_case true = let least = kept.lamports in record { owner = kept.owner; bytes = kept.bytes; lamports = omega (arith, least); blank = λ none. kept.blank (omega (arith, none)) }
    by_case false = kept

-- one that becomes a program was a final buffer
was_final : (was now : Account) → now.owner ≡ was.owner → now.bytes ≡ was.bytes → is_ready now ≡ true → is_final_buffer was ≡ true
was_final was now owner bytes ready =
    let verified = and_parts (same_key now.owner LOADER_PROGRAM && not now.executable && is_final now.bytes) (is_verified (candidate_in (rest_in now.bytes))) ready in
    let final = and_parts (same_key now.owner LOADER_PROGRAM && not now.executable) (is_final now.bytes) verified.0 in
    let loaded = and_parts (same_key now.owner LOADER_PROGRAM) (not now.executable) final.0 in
    and_from (same_key was.owner LOADER_PROGRAM) (is_final was.bytes)
    (ap (λ (k : Key). same_key k LOADER_PROGRAM) (sym owner) ∙ loaded.0) (ap is_final (sym bytes) ∙ final.1)

active_keeps : (fees : ℕ) (was now : Account) → Keeps was now fees → IsKeptBut fees was (active now)
unfolding activated
active_keeps fees was now kept = by_case (is_ready now) refl
  where
    by_case : (b : Bool) → is_ready now ≡ b
        → IsKeptBut fees was (unwrap_or (cond b (let o : Option Account = Some (record now { executable = true; bytes = rest_in now.bytes }) in o) None) now)
    by_case true ready = record { owner = kept.owner; bytes = inr (was_final was now kept.owner kept.bytes ready, ap rest_in kept.bytes); lamports = kept.lamports }
    by_case false other = record { owner = kept.owner; bytes = inl kept.bytes; lamports = kept.lamports }

pub at_rest_are_kept : AccountsAtRestAreKept
at_rest_are_kept s batch runs key rests =
    let was : Account = at s.accounts key in
    let ends : Step = Ends batch.collector (block_result s batch).block.collected in
    let each = recursion_from_All (Rests key was.owner) (steps_of s batch) rests in
    let kept : Keeps was (last_of s batch key) (0 + fees_by key (entry_steps s batch)) =
    through_all key (entry_steps s batch) 0 was (at s.accounts) (last_of s batch) (entries_path s batch runs)
    (all_are s batch (enumerate_from 0 (zip (order_of s batch) (block_result s batch).block.entries)))
    (all_first (Rests key was.owner) (entry_steps s batch) (ends ∷ []) each) (begins was (at_fits s.accounts runs.0.state key).1) in
    let parted = sum_by-append (fee_by key) (entry_steps s batch) (ends ∷ []) in
    let one = sum_by-cons (fee_by key) ends [] in
    let sums : 0 + fees_by key (entry_steps s batch) ≡ fees_by key (steps_of s batch) = omega (arith, parted, one) in
    subst (λ (n : ℕ). IsKeptBut n was (at (block_result s batch).after.accounts key)) sums
    (subst (λ (a : Account). IsKeptBut (0 + fees_by key (entry_steps s batch)) was a) (sym (ends_so s batch runs key))
    (active_keeps (0 + fees_by key (entry_steps s batch)) was (paid_to batch.collector (block_result s batch).block.collected key (last_of s batch key))
    (paid_keeps batch.collector (block_result s batch).block.collected key (0 + fees_by key (entry_steps s batch)) was (last_of s batch key) kept)))

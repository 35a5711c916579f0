-- The lamports of a block, and the programs at its end.
use Rattle.std.proofs.Common.{◌≡◌, ◌≤◌, ◌+◌, ◌&&◌, ◌==◌, ◌⊎◌, inl, inr, ◌∷◌, [], ℕ, Bool, true, false, not, cond, List, length, map, Option, Some, None, refl, sym, ap, subst, ◌∙◌, arith}
use Rattle.std.specs.Prelude.{nat_le, option_map, unwrap_or}
use Rattle.std.specs.List.Sorted.{IsStrictlySortedBy}
use Rattle.std.specs.Map.{keys_of}
use Rattle.std.proofs.lemmas.Bool.{and_parts}
use Rattle.std.proofs.lemmas.List.Sums.{sum_by-cons}
use Rattle.std.proofs.lemmas.Option.{same_Some}
use Rattle.sol_base.specs.declared.key.Key.{Key}
use Rattle.sol_base.specs.declared.key.TheConstants.{SYSTEM_PROGRAM}
use Rattle.sol_base.specs.declared.account.Account.{Account}
use Rattle.sol_base.specs.Keys.{key_cmp, same_key}
use Rattle.sol_base.proofs.KeyLaws.{key_cmp_exact, key_cmp_total}
use Rattle.message_codec.specs.Roles.{is_reserved}
use Rattle.fee_rules.specs.declared.split.FeeSplit.{FeeSplit}
use Rattle.fee_rules.specs.Fees.{split_of}
use Rattle.rent_rules.specs.Rent.{minimum_of}
use Rattle.tx_report.specs.declared.outcome.Outcome.{Outcome}
use Rattle.account_store.specs.State.{State, at, entries, get, kept, lamports_of, put, sum}
use Rattle.account_store.proofs.EntryLists.{entries-from_entries, sorted-entries}
use Rattle.account_store.proofs.StateLaws.{get-put_key, sum-put}
use Rattle.program_cache.specs.Programs.{IsProgramOf, ready_image}
use Rattle.program_cache.proofs.ProgramLaws.{program_is_ready}
use Rattle.loader_prog.specs.Loader.{activated, active}
use Rattle.loader_prog.specs.Laws.{IsActivated}
use Rattle.loader_prog.proofs.Activating.{activated-is, lamports-active}
use Rattle.account_rules.specs.Wallets.{is_wallet}
use Rattle.block_run.specs.SerialRun.{serial_run, told_in}
use Rattle.block_end.specs.BlockEnd.{Shares, activate_all, base_fees, may_collect, more, priority_fees, share, share_fees}
use Rattle.block_run.specs.Blocks.{closed}
use Rattle.block_laws.specs.Laws.{ActivatedProgramsAreReady, BurnedIsAllThatLeaves, ExecutableAccountsStay, FeesLeaveTheAccounts, IsReadyUnder}
use Rattle.block_end.proofs.Activating.{get-activate_all}
use Rattle.block_laws.proofs.Executables.{executable_stay}
use Rattle.block_run.proofs.Runs.{pays_all, pays_once}

-- ---- the fees
either_sum : (b : Bool) (n : ℕ) (s t : Shares) → sum s.accounts + s.burned ≡ n → sum t.accounts + t.burned ≡ n → sum (cond b s t).accounts + (cond b s t).burned ≡ n
either_sum true n s t a b = a
either_sum false n s t a b = b

sum-share : (s : State) (collector : Key) (split : FeeSplit) → sum (share s collector split).accounts + (share s collector split).burned ≡ sum s + (split.burned + split.rest)
sum-share s collector split =
    let paid = more (at s collector) split.rest in
    let a = sum-put s collector paid in
    either_sum _ (sum s + (split.burned + split.rest))
    (record { accounts = put s collector paid; burned = split.burned; collected = split.rest })
    (record { accounts = s; burned = split.burned + split.rest; collected = 0 })
    (omega (arith, a)) refl

split_all : (base priority : ℕ) → (split_of base priority).burned + (split_of base priority).rest ≡ base + priority
split_all base priority = omega arith

sum-share_fees : (s : State) (collector : Key) (outcomes : List Outcome)
    → sum (share_fees s collector outcomes).accounts + (share_fees s collector outcomes).burned
    ≡ sum s + (base_fees outcomes + priority_fees outcomes)
unfolding share_fees
sum-share_fees s collector outcomes =
    sum-share s collector (split_of (base_fees outcomes) (priority_fees outcomes)) ∙ ap (λ n. sum s + n) (split_all (base_fees outcomes) (priority_fees outcomes))

-- ---- activation
abbrev activated_entries : List (Key × Account) → List (Key × Account)
activated_entries es = map (λ (e : Key × Account). let d : Key × Account = (e.0, active e.1) in d) es

same_keys : (es : List (Key × Account)) → keys_of (activated_entries es) ≡ keys_of es
same_keys [] = refl
same_keys (e ∷ es) = ap (λ (ks : List Key). e.0 ∷ ks) (same_keys es)

same_lamports : (es : List (Key × Account)) → lamports_of (activated_entries es) ≡ lamports_of es
same_lamports [] = refl
same_lamports (e ∷ es) =
    let a = sum_by-cons (λ (d : Key × Account). d.1.lamports) (e.0, active e.1) (activated_entries es) in
    let b = sum_by-cons (λ (d : Key × Account). d.1.lamports) e es in
    let c = lamports-active e.1 in
    let rest = same_lamports es in
    omega (arith, a, b, c, rest)

sum-activate_all : (s : State) → sum (activate_all s) ≡ sum s
unfolding activate_all
sum-activate_all s =
    ap lamports_of (entries-from_entries key_cmp_total key_cmp_exact (activated_entries (entries s)) (subst (IsStrictlySortedBy key_cmp) (sym (same_keys (entries s))) (sorted-entries key_cmp s)))
    ∙ same_lamports (entries s)

-- ---- the laws of lamports
pub fees_leave : FeesLeaveTheAccounts
fees_leave s slot order readable all = pays_once (told_in s slot order) all s.accounts readable.state

pub burned_is_all : BurnedIsAllThatLeaves
unfolding closed serial_run
burned_is_all s head wires order readable all =
    let r = serial_run s head.slot order in
    let a = sum-activate_all (share_fees r.accounts head.collector r.outcomes).accounts in
    let b = sum-share_fees r.accounts head.collector r.outcomes in
    let l : length order ≤ length order = omega arith in
    let c = pays_all (told_in s head.slot order) all s.accounts readable.state (length order) l in
    omega (arith, a, b, c)

-- ---- executable accounts
pub executables_stay : ExecutableAccountsStay
executables_stay s slot order readable all = executable_stay (told_in s slot order) all s.accounts readable.state

-- who is paid has no program
paid_is_wallet : (collector : Key) (account : Account) → may_collect collector account ≡ true → account.executable ≡ true → ⊥
paid_is_wallet collector account may executable =
    let a = and_parts (not (is_reserved collector) && is_wallet account) (nat_le (minimum_of (length account.bytes)) account.lamports) may in
    let b = and_parts (not (is_reserved collector)) (is_wallet account) a.0 in
    let c = and_parts (same_key account.owner SYSTEM_PROGRAM && not account.executable) (length account.bytes == 0) b.1 in
    let d = and_parts (same_key account.owner SYSTEM_PROGRAM) (not account.executable) c.0 in
    let e = ap not executable in
    let f = d.1 in
    absurd (cc)

kept_is : (a b : Account) → kept a ≡ Some b → a ≡ b
kept_is a b = by_case (a.lamports == 0)
  where
    by_case : (t : Bool) → cond t None (Some a) ≡ Some b → a ≡ b
    by_case true e = absurd (cc)
    by_case false e = same_Some a b e

-- an executable account that is there once the fees are shared was there before
shared_before : (s : State) (collector : Key) (split : FeeSplit) (key : Key) (a : Account) → a.executable ≡ true → get (share s collector split).accounts key ≡ Some a → get s key ≡ Some a
shared_before s collector split key a executable = by_case (not (split.rest == 0) && may_collect collector (more (at s collector) split.rest)) refl
  where
    by_key : may_collect collector (more (at s collector) split.rest) ≡ true → (b : Bool) → cond b (kept (more (at s collector) split.rest)) (get s key) ≡ Some a → get s key ≡ Some a
    by_key may true e =
        let same = kept_is (more (at s collector) split.rest) a e in
        absurd (paid_is_wallet collector (more (at s collector) split.rest) may (ap (λ (x : Account). x.executable) same ∙ executable))
    by_key may false e = e

    by_case : (b : Bool) → (not (split.rest == 0) && may_collect collector (more (at s collector) split.rest)) ≡ b
        → get (cond b (let r : Shares =
        record {
          accounts = put s collector (more (at s collector) split.rest);
          burned = split.burned;
          collected = split.rest;
        } in r)
        (record { accounts = s; burned = split.burned + split.rest; collected = 0 })).accounts key ≡ Some a
        → get s key ≡ Some a
    by_case true may e =
        by_key (and_parts (not (split.rest == 0)) (may_collect collector (more (at s collector) split.rest)) may).1 (same_key key collector)
        (sym (get-put_key s collector (more (at s collector) split.rest) key) ∙ e)
    by_case false may e = e

shared_fees_before : (s : State) (collector : Key) (outcomes : List Outcome) (key : Key) (a : Account)
    → a.executable ≡ true → get (share_fees s collector outcomes).accounts key ≡ Some a → get s key ≡ Some a
unfolding share_fees
shared_fees_before s collector outcomes key a executable e = shared_before s collector (split_of (base_fees outcomes) (priority_fees outcomes)) key a executable e

-- a program that was activated is ready
ready_after : (t : State) (key : Key) (was account : Account) → get (activate_all t) key ≡ Some account → IsActivated was account → IsReadyUnder (activate_all t) key
ready_after t key was account there is =
    let program : IsProgramOf (activate_all t) key (ready_image is.image) =
    record { account = account; image = is.image; there = there; executable = is.executable; read = is.holds; verified = is.verified; ready_as = refl } in
    record { image = ready_image is.image; program = program; found = program_is_ready (activate_all t) key (ready_image is.image) program }

-- an executable account after activation was there before, or it is a program that is ready
active_before : (t : State) (key : Key) (account : Account) → get (activate_all t) key ≡ Some account → (get t key ≡ Some account) ⊎ IsReadyUnder (activate_all t) key
active_before t key account there = by_found (get t key) refl (sym (get-activate_all t key) ∙ there)
  where
    by_answer : (was : Account) → get t key ≡ Some was → (o : Option Account) → activated was ≡ o → unwrap_or o was ≡ account → (get t key ≡ Some account) ⊎ IsReadyUnder (activate_all t) key
    by_answer was found None none e = inl (found ∙ ap Some e)
    by_answer was found (Some b) some e = inr (ready_after t key was account there (subst (IsActivated was) e (activated-is was b some)))

    by_found : (o : Option Account) → get t key ≡ o → option_map active o ≡ Some account → (get t key ≡ Some account) ⊎ IsReadyUnder (activate_all t) key
    by_found None found e = absurd (cc)
    by_found (Some was) found e = by_answer was found (activated was) refl (same_Some (active was) account e)

pub activated_are_ready : ActivatedProgramsAreReady
unfolding closed serial_run
activated_are_ready s head wires order readable all key account there executable =
    let r = serial_run s head.slot order in
    let t = (share_fees r.accounts head.collector r.outcomes).accounts in
    let l : length order ≤ length order = omega arith in
    elim (active_before t key account there) [
      | inl e ↦ inl ((executable_stay (told_in s head.slot order) all s.accounts readable.state (length order) l key account executable).0
          (shared_fees_before r.accounts head.collector r.outcomes key account executable e))
      | inr ready ↦ inr ready
    ]

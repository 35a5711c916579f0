-- The steps of one entry lead from the accounts before it to those after it.
use Rattle.std.proofs.Common.{◌≡◌, ◌≤◌, ◌==◌, ◌∷◌, [], ◌++◌, ℕ, Bool, true, false, not, cond, ◌||◌, List, length, map, Option, Some, None, refl, sym, ap, subst, ◌∙◌, arith}
use Rattle.std.specs.Prelude.{nat_lt, slice_get, if◌then◌else◌}
use Rattle.std.specs.List.{AllByRecursion}
use Rattle.std.proofs.lemmas.Bool.Decides.{nat_tests}
use Rattle.std.proofs.lemmas.List.{length-map}
use Rattle.sol_base.specs.declared.key.Key.{Key}
use Rattle.sol_base.specs.declared.account.Account.{Account}
use Rattle.sol_base.specs.Keys.{has_key, same_key}
use Rattle.sol_base.proofs.KeyLaws.{same_key-self}
use Rattle.account_rules.specs.KeptAccounts.{IsForeignKept}
use Rattle.account_rules.specs.Wallets.{is_wallet}
use Rattle.account_rules.proofs.Foreign.{IsForeignKept-same}
use Rattle.account_store.specs.State.{settled}
use Rattle.tx_report.specs.declared.cause.DropCause.{DropCause}
use Rattle.tx_report.specs.declared.cause.DropCause.TheVariants.{PayerAbsent, PayerNotSystem, CannotPayFee}
use Rattle.bank_law.specs.Job.{beside}
use Rattle.bank_law.specs.Lawful.{IsSettled}
use Rattle.bank_law.proofs.Keys.{beside-map, map-same}
use Rattle.bank_law.proofs.Supply.{AreApart}
use Rattle.tx_exec.specs.Payer.{charged, drop_cause, dropped, less}
use Rattle.entry_laws.specs.Stretches.{IsChain, KeepsWhatIsNotItsOwn, Stretch}
use Rattle.entry_laws.proofs.Steps.{other_key, settled_is}
use Rattle.ownership_laws.specs.Steps.{Accounts, IsPath, Step, Runs, Clears}
use Rattle.ownership_laws.specs.Blocks.{payment}
use Rattle.ownership_laws.proofs.Overlays.{beside-settled, over, over-map, over-other, over-same, place_of, shown_at}

-- one path behind the other
pub path_both : (first : Accounts) (xs : List Step) (middle : Accounts) (ys : List Step) (last : Accounts) → IsPath first xs middle → IsPath middle ys last → IsPath first (xs ++ ys) last
path_both first [] middle ys last one two = subst (λ (z : Accounts). IsPath z ys last) (sym one) two
path_both first (x ∷ xs) middle ys last one two = record { next = one.next; makes = one.makes; on = path_both one.next xs middle ys last one.on two }

-- ---- the fee
-- a payer that is not refused is a wallet, and has the fee
record CanPay (payer : Account) (fee : ℕ) : Type 0 where
  wallet : is_wallet payer ≡ true
  enough : fee ≤ payer.lamports

can_pay : (payer : Account) (fee : ℕ) → drop_cause payer fee ≡ None → CanPay payer fee
can_pay payer fee able = tests (payer.lamports == 0) (is_wallet payer) (nat_lt payer.lamports fee) _ refl refl able
  where
    tests : (a b c : Bool) (rest : Option DropCause) → is_wallet payer ≡ b → nat_lt payer.lamports fee ≡ c
        → (if a then Some PayerAbsent else if not b then Some PayerNotSystem else if c then Some CannotPayFee else rest) ≡ None → CanPay payer fee
    tests true b c rest w l e = absurd (cc)
    tests false false c rest w l e = absurd (cc)
    tests false true true rest w l e = absurd (cc)
    tests false true false rest w l e = record { wallet = w; enough = grind (arith, nat_tests) }

-- the accounts once a key has paid
abbrev paying : Key → ℕ → Accounts → Accounts
paying payer fee f = λ key. cond (same_key key payer) (less (f key) fee) (f key)

paying-map : (payer : Key) (rest : List Key) (fee : ℕ) (f : Accounts) → has_key payer rest ≡ false → map (paying payer fee f) (payer ∷ rest) ≡ charged (map f (payer ∷ rest)) fee
paying-map payer rest fee f apart =
    let head : paying payer fee f payer ≡ less (f payer) fee = ap (λ (t : Bool). cond t (less (f payer) fee) (f payer)) (same_key-self payer) in
    let tail : map (paying payer fee f) rest ≡ map f rest =
    map-same (paying payer fee f) f rest (λ key has. ap (λ (t : Bool). cond t (less (f key) fee) (f key)) (other_key payer key rest apart has)) in
    ap (λ (a : Account). a ∷ map (paying payer fee f) rest) head ∙ ap (λ (more : List Account). less (f payer) fee ∷ more) tail

-- ---- the stretches
foreign_kept : (ks : List Key) (x : Stretch) (before after : Accounts) → KeepsWhatIsNotItsOwn x → map before ks ≡ x.before → map after ks ≡ x.left
    → ((key : Key) → has_key key ks ≡ false → after key ≡ before key) → (key : Key) → same_key (before key).owner x.program ≡ false → IsForeignKept (before key) (after key)
foreign_kept ks x before after kept begins ends others key foreign = by_place (has_key key ks) refl
  where
    by_place : (b : Bool) → has_key key ks ≡ b → IsForeignKept (before key) (after key)
    by_place true has =
        let found = place_of key ks has in
        kept found.place (before key) (after key) (ap (λ (vs : List Account). slice_get vs found.place) (sym begins) ∙ shown_at before ks found.place key found.there)
        (ap (λ (vs : List Account). slice_get vs found.place) (sym ends) ∙ shown_at after ks found.place key found.there) (ap (λ (b : Bool). b || false) foreign)
    by_place false none = IsForeignKept-same (before key) (after key) (sym (others key none))

-- a chain of stretches over the accounts of these keys, and what follows
module _ (ks : List Key) (apart : AreApart ks) (f : Accounts) (rest : List Step) (end : Accounts) where
  run_path : (xs : List Stretch) (g : Accounts) (first last : List Account) → map g ks ≡ first → ((key : Key) → has_key key ks ≡ false → g key ≡ f key)
      → IsChain first xs last → AllByRecursion KeepsWhatIsNotItsOwn xs → IsPath (over ks last f) rest end → IsPath g (map (Runs ks) xs ++ rest) end
  run_path [] g first last same others chain kept on =
      subst (λ (z : Accounts). IsPath z rest end) (ap (λ (vs : List Account). over ks vs f) (sym (same ∙ chain)) ∙ over-same ks f g others) on
  run_path (x ∷ xs) g first last same others chain kept on =
      let begins : map g ks ≡ x.before = same ∙ sym chain.0 in
      let counted = length-map ks g in
      let given = ap length begins in
      let left = chain.1 in
      let ends : map (over ks x.left f) ks ≡ x.left = over-map ks x.left f apart (omega (arith, counted, given, left)) in
      let stays : (key : Key) → has_key key ks ≡ false → over ks x.left f key ≡ g key = λ key none. over-other ks x.left f key none ∙ sym (others key none) in
      record {
        next = over ks x.left f;
        makes = record { begins = begins; ends = ends; others = stays; foreign = foreign_kept ks x g (over ks x.left f) kept.0 begins ends stays };
        on = run_path xs (over ks x.left f) x.left last ends (over-other ks x.left f) chain.2 kept.1 on;
      }

-- ---- the end of an entry
cleared : (ks : List Key) (left : List Account) (f h : Accounts) → map h ks ≡ map settled left → ((key : Key) → has_key key ks ≡ false → h key ≡ f key) → ((key : Key) → IsSettled (f key))
    → (key : Key) → h key ≡ settled (over ks left f key)
cleared ks left f h shown others fine key = by_place (has_key key ks) refl
  where
    by_place : (b : Bool) → has_key key ks ≡ b → h key ≡ settled (cond b (beside key ks left) (f key))
    by_place true has = sym (beside-map h key ks has) ∙ ap (beside key ks) shown ∙ beside-settled key ks left
    by_place false none = others key none ∙ sym (settled_is (f key) (fine key))

-- the fee, a chain of stretches and the end
pub paid_path : (ks : List Key) (f h : Accounts) (fee : ℕ) (parts : List Stretch) (left : List Account) → AreApart ks → dropped (map f ks) fee ≡ None
    → IsChain (charged (map f ks) fee) parts left → AllByRecursion KeepsWhatIsNotItsOwn parts → map h ks ≡ map settled left
    → ((key : Key) → has_key key ks ≡ false → h key ≡ f key) → ((key : Key) → IsSettled (f key)) → IsPath f (payment ks fee ++ (map (Runs ks) parts ++ Clears ∷ [])) h
paid_path [] f h fee parts left apart able chain kept shown others fine = absurd (cc)
paid_path (payer ∷ rest) f h fee parts left apart able chain kept shown others fine =
    let can : CanPay (f payer) fee = can_pay (f payer) fee able in
    record {
      next = paying payer fee f;
      makes = record { wallet = can.wallet; enough = can.enough; same = λ key. refl };
      on = run_path (payer ∷ rest) apart f (Clears ∷ []) h parts (paying payer fee f) (charged (map f (payer ∷ rest)) fee) left (paying-map payer rest fee f apart.0)
          (λ key none. stays key (same_key key payer) refl none) chain kept
          (record { next = h; makes = cleared (payer ∷ rest) left f h shown others fine; on = refl });
    }
  where
    stays : (key : Key) (b : Bool) → same_key key payer ≡ b → (b || has_key key rest) ≡ false → cond b (less (f key) fee) (f key) ≡ f key
    stays key true same none = absurd (cc)
    stays key false same none = refl

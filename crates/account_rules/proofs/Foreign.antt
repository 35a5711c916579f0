-- Accounts that other programs own: what they keep in one stretch, and in several.
use Rattle.std.proofs.Common.{◌≡◌, ◌≤◌, Bool, true, false, ◌||◌, List, [], ◌∷◌, ◌++◌, length, get_or, Some, slice_get, refl, sym, ap, ◌∙◌, subst, inl, inr, arith}
use Rattle.std.proofs.lemmas.Bool.{or_from, or_parts}
use Rattle.std.proofs.lemmas.Option.{same_Some, slice_get-get_or, slice_get_within}
use Rattle.sol_base.specs.declared.key.Key.{Key}
use Rattle.sol_base.specs.declared.account.Account.{Account}
use Rattle.sol_base.specs.Keys.{has_key, same_key}
use Rattle.sol_base.proofs.KeyLaws.{same_key-Decides}
use Rattle.account_rules.specs.KeptAccounts.{AreForeignKept, IsKept, IsForeignKept}

-- ---- one account
pub IsForeignKept-same : (before after : Account) → before ≡ after → IsForeignKept before after
IsForeignKept-same before after same = record {
  owner = ap (λ (a : Account). a.owner) (sym same);
  bytes = ap (λ (a : Account). a.bytes) (sym same);
  lamports = subst (λ (a : Account). before.lamports ≤ a.lamports) same (omega arith);
}

not_it : (t : Bool) → t ≡ true → (t || false) ≡ false → ⊥
not_it true is none = absurd (cc)
not_it false is none = absurd (cc)

pub IsForeignKept-kept : (program : Key) (writable : Bool) (before after : Account) → IsKept program writable before after → has_key before.owner (program ∷ []) ≡ false → IsForeignKept before after
IsForeignKept-kept program writable before after kept foreign = record {
  owner = elim kept.owner [ inl same ↦ sym same | inr given ↦ absurd (owned given.0) ];
  bytes = elim kept.bytes [ inl same ↦ sym same | inr own ↦ absurd (owned own) ];
  lamports = elim kept.lamports [ inl more ↦ more | inr own ↦ absurd (owned own) ];
}
  where
    owned : before.owner ≡ program → ⊥
    owned own = not_it (same_key before.owner program) ((same_key-Decides before.owner program).1 own) foreign

-- ---- lists of accounts
pub AreForeignKept-refl : (programs : List Key) (accounts : List Account) → AreForeignKept programs accounts accounts
AreForeignKept-refl programs accounts place was is there here foreign = IsForeignKept-same was is (same_Some was is (sym there ∙ here))

pub AreForeignKept-trans : (programs : List Key) (first second third : List Account)
    → length second ≡ length first → AreForeignKept programs first second → AreForeignKept programs second third
    → AreForeignKept programs first third
AreForeignKept-trans programs first second third count one two place was is there here foreign =
    let below = slice_get_within first place was there in
    let middle : Account = get_or second place was in
    let mid : slice_get second place ≡ Some middle = slice_get-get_or second place was (omega (arith, below, count)) in
    let a : IsForeignKept was middle = one place was middle there mid foreign in
    let b : IsForeignKept middle is = two place middle is mid here (ap (λ (key : Key). has_key key programs) a.owner ∙ foreign) in
    let low : was.lamports ≤ middle.lamports = a.lamports in
    let high : middle.lamports ≤ is.lamports = b.lamports in
    record { owner = b.owner ∙ a.owner; bytes = b.bytes ∙ a.bytes; lamports = omega (arith, low, high) }

-- more programs may touch more
pub AreForeignKept-fewer : (fewer more : List Key) (before after : List Account)
    → ((owner : Key) → has_key owner more ≡ false → has_key owner fewer ≡ false)
    → AreForeignKept fewer before after → AreForeignKept more before after
AreForeignKept-fewer fewer more before after each kept place was is there here foreign = kept place was is there here (each was.owner foreign)

-- ---- keys in lists
pub has_key-append : (key : Key) (some others : List Key) → has_key key (some ++ others) ≡ false → (has_key key some ≡ false) × (has_key key others ≡ false)
has_key-append key [] others none = (refl, none)
has_key-append key (first ∷ some) others none =
    let here = or_parts (same_key key first) (has_key key (some ++ others)) none in
    let rest = has_key-append key some others here.1 in
    (or_from (same_key key first) (has_key key some) here.0 rest.0, rest.1)

-- the program of a caller, that of its callee, those that this one calls, and those of the caller
-- after it
pub record AreOthers (key caller callee : Key) (inner later : List Key) : Type 0 where
  pub own : has_key key (caller ∷ []) ≡ false
  pub called : has_key key (callee ∷ inner) ≡ false
  pub rest : has_key key (caller ∷ later) ≡ false

pub are_others : (key caller callee : Key) (inner later : List Key) → has_key key (caller ∷ callee ∷ (inner ++ later)) ≡ false → AreOthers key caller callee inner later
are_others key caller callee inner later none =
    let one = or_parts (same_key key caller) (has_key key (callee ∷ (inner ++ later))) none in
    let two = or_parts (same_key key callee) (has_key key (inner ++ later)) one.1 in
    let three = has_key-append key inner later two.1 in
    record {
      own = or_from (same_key key caller) false one.0 refl;
      called = or_from (same_key key callee) (has_key key inner) two.0 three.0;
      rest = or_from (same_key key caller) (has_key key later) one.0 three.1;
    }

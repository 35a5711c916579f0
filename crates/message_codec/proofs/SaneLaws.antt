-- A transaction with none of the nine refusals is sane.
use Rattle.std.proofs.Common.{◌≡◌, ◌<◌, ◌≤◌, ◌+◌, ℕ, zero, suc, List, [], ◌∷◌, length, Result, Ok, Err, Bool, true, false, not, ◌||◌, ◌&&◌, cond, refl, sym, subst, ◌∙◌, nat_lt, All, IsOk, ◌↔◌, arith}
use Rattle.std.specs.Prelude.{nat_eq, nat_le}
use Rattle.std.specs.List.{list_any, position_or_len, AllByRecursion, IsDistinct}
use Rattle.std.proofs.lemmas.Bool.{or_parts}
use Rattle.std.proofs.lemmas.Bool.Decides.{nat_tests}
use Rattle.std.proofs.lemmas.List.Elements.{All-from_recursion, recursion_from_All, All-weaker}
use Rattle.std.proofs.lemmas.List.Folds.{list_any_none}
use Rattle.sol_base.specs.declared.key.Key.{Key}
use Rattle.sol_base.specs.Keys.{same_key}
use Rattle.sol_base.proofs.KeyLaws.{same_key-equiv}
use Rattle.message_codec.specs.declared.fault.SanitizeFault.{SanitizeFault}
use Rattle.message_codec.specs.declared.fault.SanitizeFault.TheVariants.{EmptyLookup}
use Rattle.message_codec.specs.declared.message.Instruction.{Instruction}
use Rattle.message_codec.specs.declared.message.Lookup.{Lookup}
use Rattle.message_codec.specs.declared.message.Tx.{Tx}
use Rattle.message_codec.specs.Roles.{key_count, load_count, loads_none, has_bad_program, has_bad_account, has_repeated_key, empty_lookup, lookups_sanitized, sanitized, IsSane}

none_passes : {X : Type 0} (test : X → Bool) (xs : List X) → list_any test xs ≡ false → AllByRecursion (λ x. test x ≡ false) xs
none_passes test [] h = tt
none_passes test (x ∷ xs) h = let n = or_parts (test x) (list_any test xs) h in (n.0, none_passes test xs n.1)

-- what is said of each where none passes
all_fail : {X : Type 0} (test : X → Bool) (P : X → Type 0) → ((x : X) → test x ≡ false → P x) → (xs : List X) → list_any test xs ≡ false → All P xs
all_fail test P fails xs h = All-weaker (λ x. test x ≡ false) P fails xs (All-from_recursion (λ x. test x ≡ false) xs (none_passes test xs h))

programs : (instructions : List Instruction) (keys : ℕ) → has_bad_program instructions keys ≡ false → All (λ instruction. (0 < instruction.program) × (instruction.program < keys)) instructions
programs instructions keys h = all_fail _ _ (λ instruction e. in_range instruction.program e) instructions h
  where
    in_range : (program : ℕ) → (nat_eq program 0 || nat_le keys program) ≡ false → (0 < program) × (program < keys)
    in_range program e = let n = or_parts (nat_eq program 0) (nat_le keys program) e in (grind (arith, nat_tests), grind (arith, nat_tests))

accounts : (instructions : List Instruction) (keys : ℕ) → has_bad_account instructions keys ≡ false → All (λ instruction. All (λ index. index < keys) instruction.accounts) instructions
accounts instructions keys h = all_fail _ _ (λ instruction e. all_fail (λ index. nat_le keys index) (λ index. index < keys) below instruction.accounts e) instructions h
  where
    below : (index : ℕ) → nat_le keys index ≡ false → index < keys
    below index e = grind (arith, nat_tests)

turned : (key : Key) (others : List Key) → AllByRecursion (λ other. same_key other key ≡ false) others → AllByRecursion (λ other. same_key key other ≡ false) others
turned key [] h = tt
turned key (other ∷ others) h = (same_key-equiv.symm key other ∙ h.0, turned key others h.1)

turned_back : (key : Key) (others : List Key) → AllByRecursion (λ other. same_key key other ≡ false) others → AllByRecursion (λ other. same_key other key ≡ false) others
turned_back key [] h = tt
turned_back key (other ∷ others) h = (same_key-equiv.symm other key ∙ h.0, turned_back key others h.1)

-- keys of which none stands again
pub are_distinct : (keys : List Key) → has_repeated_key keys ≡ false → IsDistinct same_key keys
unfolding IsDistinct
are_distinct [] h = tt
are_distinct (key ∷ others) h =
    let n = or_parts (list_any (λ other. same_key other key) others) (has_repeated_key others) h in
    (turned key others (none_passes (λ other. same_key other key) others n.0), are_distinct others n.1)

none_before_end : {X : Type 0} (test : X → Bool) (xs : List X) → nat_lt (position_or_len test xs) (length xs) ≡ false → AllByRecursion (λ x. test x ≡ false) xs
none_before_end test [] h = tt
none_before_end test (x ∷ xs) h = go (test x) refl h (none_before_end test xs)
  where
    go : (t : Bool) → test x ≡ t → nat_lt (cond (not t) (1 + position_or_len test xs) 0) (suc (length xs)) ≡ false
        → (nat_lt (position_or_len test xs) (length xs) ≡ false → AllByRecursion (λ x. test x ≡ false) xs) → AllByRecursion (λ x. test x ≡ false) (x ∷ xs)
    go true e h later = absurd (grind (arith, nat_tests))
    go false e h later = (e, later (grind (arith, nat_tests)))

loads_some : (lookup : Lookup) → loads_none lookup ≡ false → 0 < load_count lookup
loads_some lookup e = go (length lookup.writable) (length lookup.readonly) e
  where
    go : (m n : ℕ) → (nat_eq m 0 && nat_eq n 0) ≡ false → 0 < m + n
    go zero zero h = absurd (cc)
    go zero (suc n) h = omega arith
    go (suc m) n h = omega arith

lookups : (lookups : List Lookup) → lookups_sanitized (empty_lookup lookups) ≡ Ok tt → All (λ lookup. 0 < load_count lookup) lookups
lookups ls h = All-weaker (λ lookup. loads_none lookup ≡ false) (λ lookup. 0 < load_count lookup) loads_some ls
    (All-from_recursion (λ lookup. loads_none lookup ≡ false) ls
    (none_before_end loads_none ls (at_end (nat_lt (position_or_len loads_none ls) (length ls)) refl)))
  where
    at_end : (t : Bool) → nat_lt (position_or_len loads_none ls) (length ls) ≡ t → t ≡ false
    at_end true e = absurd (refused (rw e at h))
      where
        refused : (let r : Result (Unit {0}) SanitizeFault = Err (EmptyLookup (position_or_len loads_none ls)) in r) ≡ Ok tt → ⊥
        refused k = cc
    at_end false e = refl

passed : (test : Bool) (fault : SanitizeFault) (rest : Result (Unit {0}) SanitizeFault) → cond test (Err fault) rest ≡ Ok tt → (test ≡ false) × (rest ≡ Ok tt)
passed true fault rest h = absurd (cc)
passed false fault rest h = (refl, h)

none_of_nine : (tx : Tx) (most : ℕ) → sanitized tx most ≡ Ok tt → IsSane tx most
none_of_nine tx most h =
    let a = passed _ _ _ h in
    let b = passed _ _ _ a.1 in
    let c = passed _ _ _ b.1 in
    let d = passed _ _ _ c.1 in
    let e = passed _ _ _ d.1 in
    let f = passed _ _ _ e.1 in
    let g = passed _ _ _ f.1 in
    let i = passed _ _ _ g.1 in
    record {
      signatures = same (length tx.signatures) tx.message.header.required a.0;
      groups = within _ _ b.0;
      payer = under _ _ c.0;
      programs = programs tx.message.instructions (length tx.message.keys) d.0;
      accounts = accounts tx.message.instructions (key_count tx.message) e.0;
      keys = within _ _ f.0;
      apart = are_distinct tx.message.keys g.0;
      payer_free = i.0;
      lookups = lookups tx.message.lookups i.1;
    }
  where
    same : (m n : ℕ) → not (nat_eq m n) ≡ false → m ≡ n
    same m n e = grind (arith, nat_tests)

    within : (m n : ℕ) → nat_lt m n ≡ false → n ≤ m
    within m n e = grind (arith, nat_tests)

    under : (m n : ℕ) → nat_le m n ≡ false → n < m
    under m n e = grind (arith, nat_tests)

-- and the other way round

fails_all : {X : Type 0} (test : X → Bool) (P : X → Type 0) → ((x : X) → P x → test x ≡ false) → (xs : List X) → All P xs → list_any test xs ≡ false
fails_all test P fails xs h = list_any_none test xs (All-weaker P (λ x. test x ≡ false) fails xs h)

no_bad_program : (instructions : List Instruction) (keys : ℕ) → All (λ instruction. (0 < instruction.program) × (instruction.program < keys)) instructions → has_bad_program instructions keys ≡ false
no_bad_program instructions keys h = fails_all
    (λ instruction. nat_eq instruction.program 0 || nat_le keys instruction.program)
    (λ instruction. (0 < instruction.program) × (instruction.program < keys))
    (λ instruction e. in_range instruction.program e) instructions h
  where
    in_range : (program : ℕ) → (0 < program) × (program < keys) → (nat_eq program 0 || nat_le keys program) ≡ false
    in_range program e =
        let above : nat_eq program 0 ≡ false = let lt = e.0 in grind (arith, nat_tests) in
        let below : nat_le keys program ≡ false = let lt = e.1 in grind (arith, nat_tests) in
        rw (above, below) refl

no_bad_account : (instructions : List Instruction) (keys : ℕ) → All (λ instruction. All (λ index. index < keys) instruction.accounts) instructions → has_bad_account instructions keys ≡ false
no_bad_account instructions keys h =
    fails_all (λ instruction. list_any (λ index. nat_le keys index) instruction.accounts) (λ instruction. All (λ index. index < keys) instruction.accounts)
    (λ instruction e. fails_all (λ index. nat_le keys index) (λ index. index < keys) below instruction.accounts e) instructions h
  where
    below : (index : ℕ) → index < keys → nat_le keys index ≡ false
    below index e = grind (arith, nat_tests)

all_below : {X : Type 0} (test : X → Bool) (xs : List X) → AllByRecursion (λ x. test x ≡ false) xs → list_any test xs ≡ false
all_below test [] h = refl
all_below test (x ∷ xs) h = rw (h.0, all_below test xs h.1) refl

pub no_repeated : (keys : List Key) → IsDistinct same_key keys → has_repeated_key keys ≡ false
unfolding IsDistinct
no_repeated [] h = refl
no_repeated (key ∷ others) h = rw (all_below (λ other. same_key other key) others (turned_back key others h.0), no_repeated others h.1) refl

at_end : {X : Type 0} (test : X → Bool) (xs : List X) → AllByRecursion (λ x. test x ≡ false) xs → position_or_len test xs ≡ length xs
at_end test [] h = refl
at_end test (x ∷ xs) h = let later = at_end test xs h.1 in rw h.0 (omega (arith, later))

no_empty : (lookups : List Lookup) → All (λ lookup. 0 < load_count lookup) lookups → lookups_sanitized (empty_lookup lookups) ≡ Ok tt
no_empty ls h =
    let none = recursion_from_All (λ lookup. loads_none lookup ≡ false) ls
    (All-weaker (λ lookup. 0 < load_count lookup) (λ lookup. loads_none lookup ≡ false)
    (λ lookup e. some (length lookup.writable) (length lookup.readonly) e) ls h) in
    let last = at_end loads_none ls none in
    let past : nat_lt (position_or_len loads_none ls) (length ls) ≡ false = grind (arith, nat_tests) in
    rw past refl
  where
    some : (m n : ℕ) → 0 < m + n → (nat_eq m 0 && nat_eq n 0) ≡ false
    some zero zero e = absurd (omega arith)
    some zero (suc n) e = grind (arith, nat_tests)
    some (suc m) n e = grind (arith, nat_tests)

passes : (test : Bool) (fault : SanitizeFault) (rest : Result (Unit {0}) SanitizeFault) → test ≡ false → rest ≡ Ok tt → cond test (Err fault) rest ≡ Ok tt
passes test fault rest h e = rw (h, e) refl

sane_passes : (tx : Tx) (most : ℕ) → IsSane tx most → sanitized tx most ≡ Ok tt
sane_passes tx most is =
    passes _ _ _ (same (length tx.signatures) tx.message.header.required is.signatures)
    (passes _ _ _ (within (length tx.message.keys) (tx.message.header.required + tx.message.header.readonly_unsigned) is.groups)
    (passes _ _ _ (under tx.message.header.required tx.message.header.readonly_signed is.payer)
    (passes _ _ _ (no_bad_program tx.message.instructions (length tx.message.keys) is.programs)
    (passes _ _ _ (no_bad_account tx.message.instructions (key_count tx.message) is.accounts)
    (passes _ _ _ (within most (key_count tx.message) is.keys)
    (passes _ _ _ (no_repeated tx.message.keys is.apart)
    (passes _ _ _ is.payer_free
    (no_empty tx.message.lookups is.lookups))))))))
  where
    same : (m n : ℕ) → m ≡ n → not (nat_eq m n) ≡ false
    same m n e = grind (arith, nat_tests)

    within : (m n : ℕ) → n ≤ m → nat_lt m n ≡ false
    within m n e = grind (arith, nat_tests)

    under : (m n : ℕ) → n < m → nat_le m n ≡ false
    under m n e = grind (arith, nat_tests)

pub is_sane : (tx : Tx) (most : ℕ) (result : Result (Unit {0}) SanitizeFault) → result ≡ sanitized tx most → IsOk result ↔ IsSane tx most
is_sane tx most result h = (λ ok. none_of_nine tx most (sym h ∙ is_ok result ok), λ sane. subst IsOk (sym (h ∙ sane_passes tx most sane)) refl)
  where
    is_ok : (r : Result (Unit {0}) SanitizeFault) → IsOk r → r ≡ Ok tt
    is_ok (Ok done) ok = refl
    is_ok (Err fault) ok = absurd (cc)

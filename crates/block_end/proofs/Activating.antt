-- Activation: the programs that become executable are found, and then put.
use Rattle.std.proofs.Common.{◌≡◌, ◌≤◌, ◌+◌, ◌-◌, ◌^◌, ◌∷◌, [], ℕ, T, Bool, true, false, cond, ◌&&◌, not, List, length, map, Option, Some, None, refl, sym, ap, subst, ◌∙◌, arith, length-drop}
use Rattle.std.specs.Prelude.{option_map, unwrap_or, nat_eq}
use Rattle.std.specs.List.{AllByRecursion, cons_option, filter_map}
use Rattle.std.specs.Ordering.{eq_by_cmp, is_lt}
use Rattle.std.specs.declared.cmp.Ordering.{Ordering}
use Rattle.std.specs.FinMap as finite
use Rattle.std.specs.FinMap.Entries.{below_all}
use Rattle.std.specs.Cmp.{tied_itself}
use Rattle.std.proofs.lemmas.Bool.Decides.{nat_tests}
use Rattle.std.proofs.lemmas.Option.{same_Some}
use Rattle.std.proofs.lemmas.List.{length-map}
use Rattle.sol_base.specs.declared.key.Key.{Key}
use Rattle.sol_base.specs.declared.account.Account.{Account}
use Rattle.sol_base.specs.Keys.{key_cmp, same_key}
use Rattle.sol_base.specs.Accounts.{IsShort, empty_account}
use Rattle.sol_base.proofs.KeyLaws.{key_cmp_total, same_cmp, same_key-self, same_key-true}
use Rattle.account_store.specs.declared.sorted.KeyedAccount.{KeyedAccount}
use Rattle.account_store.specs.State.{State, IsState, entries, get, kept, len, put, sum}
use Rattle.account_store.proofs.StateLaws.{IsHeld-get, get-put_key, same_state, sum-put}
use Rattle.loader_prog.specs.Buffers.{rest_in}
use Rattle.loader_prog.specs.Loader.{activated, active, is_ready}
use Rattle.loader_prog.proofs.Activating.{lamports-active}
use Rattle.block_end.specs.BlockEnd.{activate_all}
use Rattle.block_end.specs.Activation.{IsPartly, activated_entry, activated_in, keyed}

pub kept-some : (a : Account) → 1 ≤ a.lamports → kept a ≡ Some a
kept-some a some = let e : nat_eq a.lamports 0 ≡ false = grind (arith, nat_tests) in rw e refl

-- ---- one account

never : (x y z : Bool) → (x && not true && y && z) ≡ false
never true y z = refl
never false y z = refl

activated_short : (a b : Account) → activated a ≡ Some b → IsShort a → IsShort b
unfolding activated
activated_short a b some short = by_case (is_ready a) some
  where
    by_case : (t : Bool) → cond t (Some (record a { executable = true; bytes = rest_in a.bytes })) None ≡ Some b → IsShort b
    by_case true e =
        let program : Account = record a { executable = true; bytes = rest_in a.bytes } in
        subst IsShort (same_Some program b e) (let d = length-drop 40 a.bytes in omega (arith, d, short))
    by_case false e = absurd (cc)

-- an account that is activated is no longer than before
active_short : (a : Account) → IsShort a → IsShort (active a)
active_short a short = by_case (activated a) refl
  where
    by_case : (o : Option Account) → activated a ≡ o → IsShort (unwrap_or o a)
    by_case None e = short
    by_case (Some b) e = activated_short a b e short

-- a program that is executable stays so
active_again : (a : Account) → active (active a) ≡ active a
unfolding activated
active_again a = by_case (is_ready a) refl
  where
    program : Account
    program = record a { executable = true; bytes = rest_in a.bytes }

    by_case : (t : Bool) → is_ready a ≡ t → active (unwrap_or (cond t (Some program) None) a) ≡ unwrap_or (cond t (Some program) None) a
    by_case true e = ap (λ (t : Bool). unwrap_or (cond t (Some (record program { bytes = rest_in program.bytes })) None) program) (never _ _ _)
    by_case false e = ap (λ (t : Bool). unwrap_or (cond t (Some program) None) a) e

-- all accounts, told by their keys
find-map : (f : Account → Account) (q : Key) (es : List (Key × Account))
    → finite.find key_cmp q (map (λ (e : Key × Account). let d : Key × Account = (e.0, f e.1) in d) es)
    ≡ option_map f (finite.find key_cmp q es)
find-map f q [] = refl
find-map f q (e ∷ es) = elim (eq_by_cmp key_cmp q e.0) as
    (λ b. cond b (Some (f e.1)) (finite.find key_cmp q
    (map (λ (e : Key × Account). let d : Key × Account = (e.0, f e.1) in d) es))
    ≡ option_map f (cond b (Some e.1) (finite.find key_cmp q es))) [
      | true ↦ refl
      | false ↦ find-map f q es
    ]

pub get-activate_all : (s : State) (q : Key) → get (activate_all s) q ≡ option_map active (get s q)
unfolding activate_all
get-activate_all s q =
    finite.get-from_entries key_cmp_total (map (λ (e : Key × Account). let d : Key × Account = (e.0, active e.1) in d) (entries s)) q
    ∙ find-map active q (entries s) ∙ ap (option_map active) (sym (finite.get-entries s q))

-- ---- those that become executable
find-head : (e : Key × Account) (es : List (Key × Account)) → finite.find key_cmp e.0 (e ∷ es) ≡ Some e.1
find-head e es = ap (λ b. cond b (Some e.1) (finite.find key_cmp e.0 es)) (same_cmp e.0 e.0 ∙ same_key-self e.0)

find-tail : (q : Key) (e : Key × Account) (es : List (Key × Account)) → same_key q e.0 ≡ false → finite.find key_cmp q (e ∷ es) ≡ finite.find key_cmp q es
find-tail q e es apart = ap (λ b. cond b (Some e.1) (finite.find key_cmp q es)) (same_cmp q e.0 ∙ apart)

first_of : (a b : Bool) → T (a && b) → T a
first_of true b h = tt
first_of false b h = absurd h

second_of : (a b : Bool) → T (a && b) → T b
second_of true b h = h
second_of false b h = absurd h

later_apart : (k q : Key) → T (is_lt (key_cmp k q)) → same_key q k ≡ false
later_apart k q less = by_case (same_key q k) refl
  where
    by_case : (b : Bool) → same_key q k ≡ b → same_key q k ≡ false
    by_case false e = e
    by_case true e = absurd (subst (λ (o : Ordering). T (is_lt o)) (ap (key_cmp k) (same_key-true q k e) ∙ tied_itself key_cmp_total k) less)

found_later : (e : Key × Account) (es ds : List (Key × Account)) → T (below_all key_cmp e.0 ds)
    → AllByRecursion (λ (d : Key × Account). finite.find key_cmp d.0 es ≡ Some d.1) ds
    → AllByRecursion (λ (d : Key × Account). finite.find key_cmp d.0 (e ∷ es) ≡ Some d.1) ds
found_later e es [] below found = tt
found_later e es (d ∷ ds) below found =
    (find-tail d.0 e es (later_apart e.0 d.0 (first_of _ _ below)) ∙ found.0, found_later e es ds (second_of _ _ below) found.1)

-- each entry is found under its key
each_found : (es : List (Key × Account)) → T (finite.is_sorted key_cmp es) → AllByRecursion (λ (d : Key × Account). finite.find key_cmp d.0 es ≡ Some d.1) es
each_found [] sorted = tt
each_found (e ∷ es) sorted = (find-head e es, found_later e es es (first_of _ _ sorted) (each_found es (second_of _ _ sorted)))

activated-active : (a b : Account) → activated a ≡ Some b → active a ≡ b
activated-active a b some = ap (λ (o : Option Account). unwrap_or o a) some

each_ahead : (start : State) (es : List (Key × Account)) → AllByRecursion (λ (d : Key × Account). get start d.0 ≡ Some d.1) es
    → AllByRecursion (λ (e : KeyedAccount). option_map active (get start e.key) ≡ Some e.account) (filter_map activated_entry es)
each_ahead start [] found = tt
each_ahead start (e ∷ es) found = by_case (each_ahead start es found.1) (activated e.1) refl
  where
    by_case : AllByRecursion (λ (d : KeyedAccount). option_map active (get start d.key) ≡ Some d.account) (filter_map activated_entry es) → (o : Option Account) → activated e.1 ≡ o
        → AllByRecursion (λ (d : KeyedAccount). option_map active (get start d.key) ≡ Some d.account) (cons_option (option_map (keyed e.0) o) (filter_map activated_entry es))
    by_case rest None none = rest
    by_case rest (Some b) some = (ap (option_map active) found.0 ∙ ap (λ (a : Account). let o : Option Account = Some a in o) (activated-active e.1 b some), rest)

-- an account that is not among them stays
others_stay : (q : Key) (es : List (Key × Account)) → AllByRecursion (λ (d : KeyedAccount). same_key q d.key ≡ false) (filter_map activated_entry es)
    → option_map active (finite.find key_cmp q es) ≡ finite.find key_cmp q es
others_stay q [] apart = refl
others_stay q (e ∷ es) apart = by_case (others_stay q es) (activated e.1) refl apart
  where
    by_test : (b : Bool) → active e.1 ≡ e.1 → option_map active (finite.find key_cmp q es) ≡ finite.find key_cmp q es
        → option_map active (cond b (Some e.1) (finite.find key_cmp q es)) ≡ cond b (Some e.1) (finite.find key_cmp q es)
    by_test true stays rest = ap (λ (a : Account). let o : Option Account = Some a in o) stays
    by_test false stays rest = rest

    by_case : (AllByRecursion (λ (d : KeyedAccount). same_key q d.key ≡ false) (filter_map activated_entry es)
        → option_map active (finite.find key_cmp q es) ≡ finite.find key_cmp q es) → (o : Option Account)
        → activated e.1 ≡ o
        → AllByRecursion (λ (d : KeyedAccount). same_key q d.key ≡ false) (cons_option (option_map (keyed e.0) o) (filter_map activated_entry es))
        → option_map active (finite.find key_cmp q (e ∷ es)) ≡ finite.find key_cmp q (e ∷ es)
    by_case rest None none h = by_test (eq_by_cmp key_cmp q e.0) (ap (λ (o : Option Account). unwrap_or o e.1) none) (rest h)
    by_case rest (Some b) some h =
        let tail = find-tail q e es h.0 in
        ap (option_map active) tail ∙ rest h.1 ∙ sym tail

-- ---- the puts
pub partly_begins : (start : State) → IsState start → IsPartly start start (activated_in start)
partly_begins start is = record {
  state = is;
  same = λ q. refl;
  ahead = each_ahead start (entries start) (found (entries start) (each_found (entries start) (finite.entries_sorted start)));
  others = λ q apart. ap (option_map active) (finite.get-entries start q) ∙ others_stay q (entries start) apart ∙ sym (finite.get-entries start q);
}
  where
    found : (es : List (Key × Account))
        → AllByRecursion (λ (d : Key × Account). finite.find key_cmp d.0 (entries start) ≡ Some d.1) es
        → AllByRecursion (λ (d : Key × Account). get start d.0 ≡ Some d.1) es
    found [] h = tt
    found (e ∷ es) h = (finite.get-entries start e.0 ∙ h.0, found es h.1)

-- what the next one was
record IsNext (now : State) (e : KeyedAccount) : Type 0 where
  before : Account
  there : get now e.key ≡ Some before
  is : e.account ≡ active before

next_is : (start now : State) (e : KeyedAccount) (left : List KeyedAccount) → IsPartly start now (e ∷ left) → IsNext now e
next_is start now e left h = by_value (get now e.key) refl (h.same e.key ∙ h.ahead.0)
  where
    by_value : (o : Option Account) → get now e.key ≡ o → option_map active o ≡ Some e.account → IsNext now e
    by_value None none put = absurd (cc)
    by_value (Some a) some put = record { before = a; there = some; is = sym (same_Some (active a) e.account put) }

pub next_short : (start now : State) (e : KeyedAccount) (left : List KeyedAccount) → IsPartly start now (e ∷ left) → IsShort e.account
next_short start now e left h =
    let n = next_is start now e left h in
    subst IsShort (sym n.is) (active_short n.before (IsHeld-get now e.key n.before h.state n.there).1)

pub next_fits : (start now : State) (e : KeyedAccount) (left : List KeyedAccount) → IsPartly start now (e ∷ left) → sum (put now e.key e.account) ≤ 2 ^ 64 - 1
next_fits start now e left h =
    let n = next_is start now e left h in
    let a = sum-put now e.key e.account in
    let b = ap (λ (o : Option Account). (unwrap_or o empty_account).lamports) n.there in
    let c = ap (λ (x : Account). x.lamports) n.is in
    let d = lamports-active n.before in
    let f = h.state.fits in
    omega (arith, a, b, c, d, f)

pub partly_goes_on : (start now after : State) (e : KeyedAccount) (left : List KeyedAccount)
    → IsPartly start now (e ∷ left) → after ≡ put now e.key e.account → IsState after
    → IsPartly start after left
partly_goes_on start now after e left h is state = record {
  state = state;
  same = λ q. ap (option_map active) (got q) ∙ same q (same_key q e.key) refl;
  ahead = h.ahead.1;
  others = λ q apart. ap (option_map active) (got q) ∙ others q apart (same_key q e.key) refl ∙ sym (got q);
}
  where
    n : IsNext now e
    n = next_is start now e left h

    got : (q : Key) → get after q ≡ cond (same_key q e.key) (kept e.account) (get now q)
    got q = ap (λ (s : State). get s q) is ∙ get-put_key now e.key e.account q

    stands : kept e.account ≡ Some e.account
    stands =
        let a = ap (λ (x : Account). x.lamports) n.is in
        let b = lamports-active n.before in
        let c = (IsHeld-get now e.key n.before h.state n.there).0 in
        kept-some e.account (omega (arith, a, b, c))

    again : option_map active (kept e.account) ≡ Some e.account
    again =
        ap (option_map active) stands
        ∙ ap (λ (a : Account). let o : Option Account = Some a in o) (ap active n.is ∙ active_again n.before ∙ sym n.is)

    same : (q : Key) (b : Bool) → same_key q e.key ≡ b → option_map active (cond b (kept e.account) (get now q)) ≡ option_map active (get start q)
    same q true e' = again ∙ sym h.ahead.0 ∙ ap (λ (k : Key). option_map active (get start k)) (sym (same_key-true q e.key e'))
    same q false e' = h.same q

    others : (q : Key) → AllByRecursion (λ (d : KeyedAccount). same_key q d.key ≡ false) left → (b : Bool) → same_key q e.key ≡ b
        → option_map active (cond b (kept e.account) (get now q)) ≡ cond b (kept e.account) (get now q)
    others q apart true e' = again ∙ sym stands
    others q apart false e' = h.others q (e', apart)

pub partly_ends : (start now : State) (left : List KeyedAccount) → IsPartly start now left → left ≡ [] → now ≡ activate_all start
partly_ends start now left h none = same_state now (activate_all start) (λ q.
    sym (h.others q (subst (AllByRecursion (λ (d : KeyedAccount). same_key q d.key ≡ false)) (sym none) tt)) ∙ h.same q ∙ sym (get-activate_all start q))

-- ---- how many there are
one_more : (b : Bool) (n : ℕ) → cond b n (n + 1) ≤ n + 1
one_more true n = omega arith
one_more false n = omega arith

len-from_entries : (es : List (Key × Account)) → finite.len (finite.from_entries {R = key_cmp} es) ≤ length es
len-from_entries [] = subst (λ n. n ≤ 0) (sym (finite.len-empty key_cmp Account)) (omega arith)
len-from_entries (e ∷ es) =
    let m = finite.from_entries {R = key_cmp} es in
    let rest = len-from_entries es in
    let a = finite.len-insert key_cmp_total m e.0 e.1 in
    let b = one_more (finite.contains_key m e.0) (finite.len m) in
    omega (arith, rest, a, b)

pub len-activate_all : (s : State) → len (activate_all s) ≤ len s
unfolding activate_all
len-activate_all s =
    let a = len-from_entries (map (λ (e : Key × Account). let d : Key × Account = (e.0, active e.1) in d) (entries s)) in
    let b = length-map (entries s) (λ (e : Key × Account). let d : Key × Account = (e.0, active e.1) in d) in
    let c = finite.len-entries s in
    omega (arith, a, b, c)

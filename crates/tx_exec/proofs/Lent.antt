-- What is lent for writing.
use Rattle.std.proofs.Common.{◌≡◌, ◌<◌, ◌+◌, ℕ, suc, zero, List, [], ◌∷◌, ◌++◌, length, map, take, get_or, Bool, true, false, Some, refl, sym, ap, ◌∙◌, arith, if◌then◌else◌}
use Rattle.std.specs.Prelude.{slice_get}
use Rattle.std.specs.declared.sync.Arc.{Arc}
use Rattle.std.specs.declared.alloc.Global.{Global}
use Rattle.std.specs.Arc.{arc_value}
use Rattle.std.proofs.lemmas.List.{get_or-map, length-map, map-append}
use Rattle.sol_base.specs.declared.account.Account.{Account}
use Rattle.sol_base.specs.declared.lock.Lock.{Lock}
use Rattle.sol_base.specs.Accounts.{accounts_of, lamports_in}
use Rattle.account_store.specs.State.{settled}
use Rattle.bank_law.specs.Lawful.{lent_for_writing}
use Rattle.bank_law.proofs.States.{lamports_in-cons}

-- what is not lent for writing is the same
abbrev pub SameRead : List Lock → List Account → List Account → Type 0
SameRead ls a b = (place : ℕ) (lock : Lock) → slice_get ls place ≡ Some lock → lock.write ≡ false → slice_get b place ≡ slice_get a place

-- where all lamports and what is not lent are the same, so are the lamports of what is lent
pub lent_lamports : (ls : List Lock) (a b : List Account) → length a ≡ length ls → length b ≡ length ls
    → SameRead ls a b → lamports_in (lent_for_writing ls b) + lamports_in a
    ≡ lamports_in (lent_for_writing ls a) + lamports_in b
lent_lamports [] [] [] h k same = refl
lent_lamports [] [] (y ∷ b) h k same = absurd (omega (arith, k))
lent_lamports [] (x ∷ a) b h k same = absurd (omega (arith, h))
lent_lamports (l ∷ ls) [] b h k same = absurd (omega (arith, h))
lent_lamports (l ∷ ls) (x ∷ a) [] h k same = absurd (omega (arith, k))
lent_lamports (l ∷ ls) (x ∷ a) (y ∷ b) h k same =
    let left = lamports_in-cons x a in
    let right = lamports_in-cons y b in
    let one : lamports_in (lent_for_writing (l ∷ ls) (y ∷ b)) + (x.lamports + lamports_in a) ≡ lamports_in (lent_for_writing (l ∷ ls) (x ∷ a)) + (y.lamports + lamports_in b) =
    by_test l.write refl (lent_lamports ls a b (omega (arith, h)) (omega (arith, k)) (λ place lock there reads. same (suc place) lock there reads)) in
    omega (arith, left, right, one)
  where
    by_test : (w : Bool) → l.write ≡ w → lamports_in (lent_for_writing ls b) + lamports_in a ≡ lamports_in (lent_for_writing ls a) + lamports_in b →
        lamports_in (if w then y ∷ lent_for_writing ls b else lent_for_writing ls b) +
        (x.lamports + lamports_in a)
        ≡ lamports_in (if w then x ∷ lent_for_writing ls a else lent_for_writing ls a) +
        (y.lamports + lamports_in b)
    by_test true e r = let one = lamports_in-cons y (lent_for_writing ls b) in let two = lamports_in-cons x (lent_for_writing ls a) in omega (arith, one, two, r)
    by_test false e r = let s : Some y ≡ Some x = same 0 l refl e in let t : y ≡ x = cc in let u : y.lamports ≡ x.lamports = ap (λ (z : Account). z.lamports) t in omega (arith, u, r)

-- one lock more, and the value beside it
one_more : (ls : List Lock) (vs : List Account) (i : ℕ) (l : Lock) (v : Account) → i < length ls → i < length vs →
    lent_for_writing (take (suc i) ls) (take (suc i) vs) ≡ lent_for_writing (take i ls) (take i vs) ++ lent_for_writing (get_or ls i l ∷ []) (get_or vs i v ∷ [])
one_more [] vs i l v h k = absurd (omega (arith, h))
one_more (x ∷ ls) [] i l v h k = absurd (omega (arith, k))
one_more (x ∷ ls) (y ∷ vs) zero l v h k = refl
one_more (x ∷ ls) (y ∷ vs) (suc i) l v h k = by_test x.write (one_more ls vs i l v (omega (arith, h)) (omega (arith, k)))
  where
    by_test : (w : Bool) → lent_for_writing (take (suc i) ls) (take (suc i) vs) ≡ lent_for_writing (take i ls) (take i vs) ++ lent_for_writing (get_or ls i l ∷ []) (get_or vs i v ∷ []) →
        (if w then y ∷ lent_for_writing (take (suc i) ls) (take (suc i) vs) else lent_for_writing (take (suc i) ls) (take (suc i) vs)) ≡
        (if w then y ∷ lent_for_writing (take i ls) (take i vs) else lent_for_writing (take i ls) (take i vs)) ++ lent_for_writing (get_or ls i l ∷ []) (get_or vs i v ∷ [])
    by_test true r = ap (λ (rest : List Account). y ∷ rest) r
    by_test false r = r

-- what is written so far, and one account more
pub written_more : (ls : List Lock) (shares so_far next : List (Arc Account Global)) (i : ℕ) (l : Lock)
    (share : Arc Account Global) → i < length ls → i < length shares → share ≡ get_or shares i share →
    accounts_of so_far ≡ map settled (lent_for_writing (take i ls) (take i (accounts_of shares))) →
    accounts_of next ≡ accounts_of so_far ++ map settled (lent_for_writing (get_or ls i l ∷ []) (arc_value share ∷ [])) →
    accounts_of next ≡ map settled (lent_for_writing (take (i + 1) ls) (take (i + 1) (accounts_of shares)))
written_more ls shares so_far next i l share h k here before pushed =
    let value : get_or (accounts_of shares) i (arc_value share)
    ≡ arc_value share = get_or-map (λ (s : Arc Account Global). arc_value s) shares i share
    (arc_value share) k ∙ ap (λ (s : Arc Account Global). arc_value s) (sym here) in
    let count : length (accounts_of shares) ≡ length shares = length-map shares (λ (s : Arc Account Global). arc_value s) in
    let more = one_more ls (accounts_of shares) i l (arc_value share) h (omega (arith, count, k)) in
    let step : suc i ≡ i + 1 = omega arith in
    pushed
    ∙ ap (λ (front : List Account). front ++ map settled (lent_for_writing (get_or ls i l ∷ []) (arc_value share ∷ []))) before
    ∙ ap (λ (v : Account). map settled (lent_for_writing (take i ls) (take i (accounts_of shares))) ++ map settled (lent_for_writing (get_or ls i l ∷ []) (v ∷ []))) (sym value)
    ∙ sym (map-append settled (lent_for_writing (take i ls) (take i (accounts_of shares))) (lent_for_writing (get_or ls i l ∷ []) (get_or (accounts_of shares) i (arc_value share) ∷ [])))
    ∙ ap (map settled) (sym more)
    ∙ ap (λ n. map settled (lent_for_writing (take n ls) (take n (accounts_of shares)))) step

-- Accounts without lamports are written as the empty one, and with them no lamport is lost.
use Rattle.std.proofs.Common.{◌≡◌, ◌==◌, List, [], ◌∷◌, map, Bool, true, false, refl, arith, if◌then◌else◌}
use Rattle.std.proofs.lemmas.List.Elements.{All-cons, All-nil, All-head, All-tail}
use Rattle.std.proofs.lemmas.Bool.{cond_both}
use Rattle.std.proofs.lemmas.Bool.Decides.{nat_tests}
use Rattle.sol_base.specs.declared.account.Account.{Account}
use Rattle.sol_base.specs.Accounts.{AreShort, IsShort, empty_account, lamports_in}
use Rattle.account_store.specs.State.{settled}
use Rattle.bank_law.specs.Lawful.{AreSettled, IsSettled}
use Rattle.bank_law.proofs.States.{lamports_in-cons}

settled_lamports : (account : Account) → (settled account).lamports ≡ account.lamports
settled_lamports account = by_test (account.lamports == 0) refl
  where
    by_test : (b : Bool) → (account.lamports == 0) ≡ b → (let x : Account = if b then empty_account else account in x.lamports) ≡ account.lamports
    by_test true e = grind (arith, nat_tests)
    by_test false e = refl

pub all_settled_lamports : (values : List Account) → lamports_in (map settled values) ≡ lamports_in values
all_settled_lamports [] = refl
all_settled_lamports (v ∷ vs) =
    let one = settled_lamports v in
    let rest = all_settled_lamports vs in
    let left = lamports_in-cons (settled v) (map settled vs) in
    let right = lamports_in-cons v vs in
    omega (arith, one, rest, left, right)

settled_is : (account : Account) → IsSettled (settled account)
settled_is account = by_test (account.lamports == 0) refl
  where
    by_test : (b : Bool) → (account.lamports == 0) ≡ b → IsSettled (if b then empty_account else account)
    by_test true e = λ none. refl
    by_test false e = λ none. absurd (grind (arith, nat_tests))

pub all_settled : (values : List Account) → AreSettled (map settled values)
all_settled [] = All-nil IsSettled
all_settled (v ∷ vs) = All-cons IsSettled (settled v) (map settled vs) (settled_is v) (all_settled vs)

settled_short : (account : Account) → IsShort account → IsShort (settled account)
settled_short account h = cond_both (account.lamports == 0) empty_account account IsShort (λ _. omega arith) (λ _. h)

pub all_settled_short : (values : List Account) → AreShort values → AreShort (map settled values)
all_settled_short [] h = All-nil IsShort
all_settled_short (v ∷ vs) h =
    All-cons IsShort (settled v) (map settled vs) (settled_short v (All-head IsShort v vs h)) (all_settled_short vs (All-tail IsShort v vs h))

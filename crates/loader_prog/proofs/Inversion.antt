-- What holds where an instruction ends well.
use Rattle.std.proofs.Common.{◌≡◌, ◌<◌, ◌≤◌, ℕ, Bool, true, false, List, Result, Ok, Err, length, nat_lt, refl, sym, ap, ◌∙◌, arith}
use Rattle.std.proofs.lemmas.Bool.{ltb-false}
use Rattle.spec_base.specs.Reading.{◌>>=◌}
use Rattle.spec_base.proofs.Binding.{bind_ok}
use Rattle.sol_base.specs.declared.key.Key.{Key}
use Rattle.sol_base.specs.declared.key.TheConstants.{LOADER_PROGRAM}
use Rattle.sol_base.specs.declared.account.Account.{Account}
use Rattle.sol_base.specs.declared.lock.Meta.{Meta}
use Rattle.account_rules.specs.declared.rules.RuleFault.{RuleFault}
use Rattle.account_rules.specs.AccountRules.{listed_rules}
use Rattle.loader_prog.specs.declared.fault.LoaderFault.{LoaderFault}
use Rattle.loader_prog.specs.declared.fault.LoaderFault.TheVariants.{NotEnoughAccounts}
use Rattle.loader_prog.specs.Requests.{Request, Init, Write, Finalize, SetAuthority, accounts_needed, request_in}
use Rattle.loader_prog.specs.Loader.{data_row, loader_row, or_rule, ruled, unless, with_data}

-- a test that did not refuse
pub unless_ok : {X : Type 0} (test : Bool) (fault : LoaderFault) (value : Result X LoaderFault) (x : X) → unless test fault value ≡ Ok x → (test ≡ false) × (value ≡ Ok x)
unless_ok true fault value x h = absurd (cc)
unless_ok false fault value x h = (refl, h)

or_rule_ok : (rules : Result (Unit {0}) RuleFault) (after x : List Account) → or_rule rules after ≡ Ok x → (rules ≡ Ok tt) × (after ≡ x)
or_rule_ok (Ok _) after x h = (refl, cc)
or_rule_ok (Err fault) after x h = absurd (cc)

-- an instruction that ends well
pub record EndsWell (keys : List Key) (before : List Account) (metas : List Meta) (after : List Account) : Type 0 where
  pub request : Request
  pub enough : accounts_needed request ≤ length metas
  pub bytes : List ℕ
  pub row : data_row keys before metas request ≡ Ok bytes
  pub written : with_data before metas bytes ≡ after
  pub unbroken : listed_rules LOADER_PROGRAM metas before after ≡ Ok tt

pub ends_well : (keys : List Key) (accounts : List Account) (metas : List Meta) (input : List ℕ)
    (after : List Account) → loader_row keys accounts metas input ≡ Ok after
    → EndsWell keys accounts metas after
unfolding loader_row
ends_well keys accounts metas input after h =
    let first = bind_ok (request_in input) _ after h in
    let second = unless_ok (nat_lt (length metas) (accounts_needed first.0)) NotEnoughAccounts
    (data_row keys accounts metas first.0 >>=
    (λ (bytes : List ℕ). ruled metas accounts (with_data accounts metas bytes))) after first.2 in
    let third = bind_ok (data_row keys accounts metas first.0) (λ (bytes : List ℕ). ruled metas accounts (with_data accounts metas bytes)) after second.1 in
    let last = or_rule_ok (listed_rules LOADER_PROGRAM metas accounts (with_data accounts metas third.0)) (with_data accounts metas third.0) after third.2 in
    record {
      request = first.0;
      enough = ltb-false (length metas) (accounts_needed first.0) second.0;
      bytes = third.0;
      row = third.1;
      written = last.1;
      unbroken = ap (λ (l : List Account). listed_rules LOADER_PROGRAM metas accounts l) (sym last.1) ∙ last.0;
    }

-- each request names an account
pub some_account : (request : Request) (n : ℕ) → accounts_needed request ≤ n → 0 < n
some_account request n enough = omega (arith, needed request)
  where
    needed : (request : Request) → 1 ≤ accounts_needed request
    needed (Init authority) = omega arith
    needed (Write offset bytes) = omega arith
    needed Finalize = omega arith
    needed (SetAuthority authority) = omega arith

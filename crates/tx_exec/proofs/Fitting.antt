-- What fits the locks of a transaction fits its keys, and what its instructions name is there.
use Rattle.std.proofs.Common.{◌≡◌, ◌≤◌, ◌<◌, ◌++◌, ℕ, zero, suc, List, [], ◌∷◌, length, get_or, Some, All, refl, sym, ap, subst, ◌∙◌, arith}
use Rattle.std.specs.Prelude.{slice_get}
use Rattle.std.specs.declared.sync.Arc.{Arc}
use Rattle.std.specs.declared.alloc.Global.{Global}
use Rattle.std.specs.Arc.{arc_value}
use Rattle.std.proofs.lemmas.List.{length-append}
use Rattle.std.proofs.lemmas.Option.{slice_get-get_or}
use Rattle.sol_base.specs.declared.account.Account.{Account}
use Rattle.sol_base.specs.declared.lock.Lock.{Lock}
use Rattle.sol_base.specs.Accounts.{AreShort, IsShort, accounts_of}
use Rattle.sol_base.specs.Limits.{max_transaction_keys}
use Rattle.message_codec.specs.declared.message.Instruction.{Instruction}
use Rattle.message_codec.specs.Wire.{IsCountable}
use Rattle.message_codec.specs.Roles.{AreNamed, all_keys}
use Rattle.message_codec.proofs.RoleLaws.{all_most, are_named, lock_count}
use Rattle.bank_law.specs.Lawful.{Fits}
use Rattle.bank_law.proofs.States.{lamports_in-cons}
use Rattle.admission.specs.declared.chosen.Chosen.{Chosen}
use Rattle.admission.specs.Chosen.{IsChosen}
use Rattle.invoke_engine.specs.Conditions.{AreAccountsOf, IsCall}
use Rattle.tx_exec.specs.Payer.{charged, less}
use Rattle.tx_exec.specs.Executing.{call_of, lets_write}
use Rattle.tx_exec.proofs.Keeping.{lock_writes, metas_there, short_less}

-- ---- accounts

-- a lock for each key
pub locks_beside : (t : Chosen) → IsChosen t → length t.locks ≡ length (all_keys t.tx.message t.loaded)
locks_beside t is = ap length is.locked ∙ lock_count t.tx.message t.loaded

pub fits_given : (t : Chosen) (vs : List Account) → IsChosen t → Fits t.locks vs → AreAccountsOf (length (all_keys t.tx.message t.loaded)) vs
fits_given t vs is f = record { count = f.one_each ∙ locks_beside t is; short = f.short; supply = f.supply }

pub given_fits : (t : Chosen) (vs : List Account) → IsChosen t → AreAccountsOf (length (all_keys t.tx.message t.loaded)) vs → Fits t.locks vs
given_fits t vs is g = record { one_each = g.count ∙ sym (locks_beside t is); short = g.short; supply = g.supply }

-- taking the fee leaves them so
pub charged_fits : (ls : List Lock) (vs : List Account) (fee : ℕ) → Fits ls vs → Fits ls (charged vs fee)
charged_fits ls [] fee f = f
charged_fits ls (payer ∷ others) fee f =
    let left = lamports_in-cons (less payer fee) others in
    let right = lamports_in-cons payer others in
    let all = f.supply in
    record { one_each = f.one_each; short = short_less payer (less payer fee) others refl f.short; supply = omega (arith, left, right, all) }

-- one of them, behind its share
pub short_at : (shares : List (Arc Account Global)) (i : ℕ) (share : Arc Account Global) → i < length shares → share ≡ get_or shares i share → AreShort (accounts_of shares) → IsShort (arc_value share)
short_at shares i share h here all = subst (λ (s : Arc Account Global). IsShort (arc_value s)) (sym here) (one shares i h all)
  where
    one : (ss : List (Arc Account Global)) (n : ℕ) → n < length ss → AreShort (accounts_of ss) → IsShort (arc_value (get_or ss n share))
    one [] n k a = absurd (omega (arith, k))
    one (s ∷ ss) zero k a = a zero (arc_value s) (omega (arith, k))
    one (s ∷ ss) (suc n) k a = one ss n (omega (arith, k)) (λ m e l. a (suc m) e (omega (arith, l)))

-- ---- instructions
pub keys_few : (t : Chosen) → IsChosen t → length (all_keys t.tx.message t.loaded) ≤ max_transaction_keys
keys_few t is = all_most t.tx max_transaction_keys t.loaded is.sane is.loaded

pub all_named : (t : Chosen) → IsChosen t → All (AreNamed t.tx.message t.loaded) t.tx.message.instructions
all_named t is = are_named t.tx max_transaction_keys t.loaded is.sane is.loaded

pub named_at : (t : Chosen) → IsChosen t → (index : ℕ) (i : Instruction) → index < length t.tx.message.instructions → i ≡ get_or t.tx.message.instructions index i → AreNamed t.tx.message t.loaded i
named_at t is index i below here = subst (λ (x : Instruction). AreNamed t.tx.message t.loaded x) (sym here) (all_named t is index i below)

pub call_fits : (t : Chosen) (i : Instruction) → AreNamed t.tx.message t.loaded i → IsCountable i.input → IsCall (length (all_keys t.tx.message t.loaded)) (call_of t i)
call_fits t i named short =
    let one = length-append (t.tx.message.keys ++ t.loaded.writable) t.loaded.readonly in
    let two = length-append t.tx.message.keys t.loaded.writable in
    let static = named.static in
    record {
      program = omega (arith, one, two, static);
      range = metas_there t (length (all_keys t.tx.message t.loaded)) i.accounts named.accounts;
      input = short;
    }

-- ---- the rights that a lock gives
pub right_at : (t : Chosen) → IsChosen t → (items : List Lock) → items ≡ t.locks → (place : ℕ) (d : Lock) → place < length items → (get_or items place d).write ≡ lets_write t place
right_at t is items same place d below =
    sym (lock_writes t place (get_or items place d) (subst (λ (ls : List Lock). slice_get ls place ≡ Some (get_or items place d)) (same ∙ is.locked) (slice_get-get_or items place d below)))

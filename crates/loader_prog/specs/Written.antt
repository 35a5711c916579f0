-- What a call has written before the account rules are checked: other data, or none.
use Rattle.std.specs.Prelude.{◌≡◌, ℕ, Bool, List, slice_set, Option, unwrap_or}
use Rattle.std.specs.List.{slice_index_or}
use Rattle.sol_base.specs.declared.account.Account.{Account}
use Rattle.sol_base.specs.declared.lock.Meta.{Meta}
use Rattle.sol_base.specs.Accounts.{empty_account, SameUnlessTouched}
use Rattle.account_rules.specs.AccountRules.{AreParallel}
use Rattle.loader_prog.specs.Loader.{data_in, holding}

-- the data of the first account, where only other data are told
abbrev pub data_by : List Account → List Meta → Option (List ℕ) → List ℕ
data_by accounts metas written = unwrap_or written (data_in accounts metas)

-- the accounts after what was written at a place, if anything was, and flags of which may differ
pub record IsReplaced (before : List Account) (place : ℕ) (written : Option (List ℕ))
    (touched : List Bool) (after : List Account) : Type 0 where
  pub value : after ≡ (let account = slice_index_or before place empty_account in
      slice_set before place (holding account (unwrap_or written account.bytes)))
  pub flags : AreParallel touched before after
  pub untouched : SameUnlessTouched touched before after

-- What a draft of a region stands for.
use Rattle.std.specs.Prelude.{ℕ, List}
use Rattle.sol_base.specs.declared.account.Account.{Account}

-- the bytes so far, and the accounts that are lent, each with the place where its data begin
pub record Drafted : Type 0 where
  pub bytes : List ℕ
  pub lent : List (ℕ × Account)

-- The lines of the accounts of two snapshots that differ (the project's own): first those of the keys
-- that the first has, then those that the second alone has, each in the order of the keys.
use Rattle.std.specs.Prelude.{[], ◌++◌, codes, Option, Some, None}
use Rattle.std.specs.List.{flat_map}
use Rattle.sol_base.specs.declared.key.Key.{Key}
use Rattle.sol_base.specs.declared.account.Account.{Account}
use Rattle.account_store.specs.State.{State, get, entries}
use Rattle.text_views.specs.Fields.{Text, named, number_line, bytes_line, flag_line, only_in_a, only_in_b}

abbrev pub account_place : Key → Text
account_place key = named (codes "account ") key.0

-- the fields that differ of an account that both have
unfoldable pub account_lines : Key → Account → Account → Text
account_lines key left right =
    number_line (account_place key) (codes "lamports") left.lamports right.lamports
    ++ bytes_line (account_place key) (codes "owner") left.owner.0 right.owner.0
    ++ flag_line (account_place key) (codes "executable") left.executable right.executable
    ++ bytes_line (account_place key) (codes "data") left.bytes right.bytes

-- by what the other has under the key
abbrev pub left_by : Key → Account → Option Account → Text
left_by key left None = only_in_a (account_place key)
left_by key left (Some right) = account_lines key left right

abbrev pub right_by : Key → Option Account → Text
right_by key None = only_in_b (account_place key)
right_by key (Some left) = []

abbrev pub left_lines : State → Key × Account → Text
left_lines right (key, account) = left_by key account (get right key)

abbrev pub right_lines : State → Key × Account → Text
right_lines left (key, account) = right_by key (get left key)

abbrev pub accounts_lines : State → State → Text
accounts_lines left right =
    flat_map (left_lines right) (entries left) ++ flat_map (right_lines left) (entries right)

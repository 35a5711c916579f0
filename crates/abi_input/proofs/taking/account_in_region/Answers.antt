use Rattle.abi_input.proofs.TakeLaws.{account_is}
use Rattle.abi_input.proofs.taking.account_in_region.Goals as goal

pub returns : goal.returns
returns c =
    account_is c.args.region.now.bytes c.args.entry c.args.account.now c.number_at.result c.number_at-len.result
    c.key_in_region.result c.in_ok-bytes_in_region.field-0 c.number_at.ensures c.key_in_region.ensures
    c.number_at-len.ensures c.in_ok-bytes_in_region.ensures

use Rattle.std.proofs.Common.{◌≡◌, ◌+◌, length, sym, ap, ◌∙◌, rules}
use Rattle.spec_base.specs.Bytes.{number_from}
use Rattle.sol_base.specs.declared.key.Key.{Key}
use Rattle.abi_input.specs.Region.{data_len_at}
use Rattle.abi_input.proofs.TakeLaws.{same_account}
use Rattle.abi_input.proofs.taking.is_unchanged.Goals as goal

pub returns : goal.returns
returns c =
    let lamports : number_from c.args.region.now.bytes (c.args.entry + 72) ≡ c.args.account.now.lamports = sym c.number_at-lamports.ensures ∙ c.if-lamports-account.false in
    let len : data_len_at c.args.region.now.bytes c.args.entry ≡ length c.args.account.now.bytes = sym c.number_at-len.ensures ∙ c.if-len.false ∙ c.len.ensures in
    let same : c.key_in_region-owner.result ≡ c.args.account.now.owner = search rules in
    λ has. same_account c.args.region.now.bytes c.args.entry c.args.account.now lamports (sym c.key_in_region-owner.ensures ∙ ap (λ (k : Key). k.0) same) len (c.has_data.ensures has)

use Rattle.std.proofs.Common.{◌≡◌, ◌≤◌, ◌-◌, ◌++◌, ℕ, List, Result, Ok, length, sym, ap, ◌∙◌, arith}
use Rattle.std.proofs.lemmas.Result.{IfOk-weaker}
use Rattle.sol_base.specs.declared.account.Account.{Account}
use Rattle.sol_base.specs.Accounts.{accounts_of}
use Rattle.data_parts.specs.Parts.{Content}
use Rattle.abi_input.specs.Region.{entry_start, lent_in}
use Rattle.abi_input.proofs.Entries.{start_least}
use Rattle.abi_input.proofs.PatchLaws.{patched_whole}
use Rattle.abi_input.proofs.patching.patched_region.Goals as goal

pub copy-requires-clause-within : goal.copy-requires-clause-within
copy-requires-clause-within c =
    let whole : entry_start (accounts_of c.args.laid.now.start.now) c.args.laid.now.listings.metas.now
    (length c.args.laid.now.listings.metas.now) ≤ length c.args.laid.now.region.now.bytes =
    c.args.laid.now.whole in
    omega (arith, start_least (accounts_of c.args.laid.now.start.now) c.args.laid.now.listings.metas.now (length c.args.laid.now.listings.metas.now))

pub returns-clause-bytes : goal.returns-clause-bytes
returns-clause-bytes c =
    let all = patched_whole c.args.laid.now.region.now.bytes (accounts_of c.args.laid.now.start.now)
    (accounts_of c.args.now.now) c.args.laid.now.listings.metas.now c.in_ok-draft.draft.bytes
    c.copy.new.draft.bytes c.patch_entries.new.draft.bytes c.copy-2.new.draft.bytes c.in_ok-end.end
    (c.len.result - c.in_ok-end.end)
    c.requires.rooms c.in_ok-draft.ensures.bytes c.in_ok-copy.ensures.bytes c.in_ok-end.ensures.bytes
    c.in_ok-copy-2.ensures.bytes c.in_ok-end.ensures.end (ap (λ n. n - c.in_ok-end.end) c.len.ensures.count)
    in
    IfOk-weaker c.finish.result _ _ (λ next h. all ∙ ap (λ (content : Content). let r : Result (List ℕ) ℕ = Ok content.bytes in r) (sym h)) c.finish.ensures

pub returns-clause-lent : goal.returns-clause-lent
returns-clause-lent c =
    let lent : c.copy-2.new.draft.lent ≡ lent_in (accounts_of c.args.laid.now.start.now) (accounts_of c.args.now.now) c.args.laid.now.listings.metas.now =
    c.copy-2.ensures.lent ∙ c.in_ok-end.ensures.lent
    ∙ ap (λ (l : List (ℕ × Account)). l
    ++ lent_in (accounts_of c.args.laid.now.start.now) (accounts_of c.args.now.now)
    c.args.laid.now.listings.metas.now) (c.copy.ensures.lent ∙ c.in_ok-draft.ensures.lent) in
    IfOk-weaker c.finish.result _ _ (λ next h. ap (λ (content : Content). content.lent) h ∙ lent) c.finish.ensures

use Rattle.std.proofs.Common.{List, ap, sym, ◌∙◌}
use Rattle.std.proofs.lemmas.Result.{err_from_is_err_and}
use Rattle.data_parts.specs.Parts.{Content}
use Rattle.sol_base.specs.Accounts.{accounts_of}
use Rattle.abi_input.proofs.TakeLaws.{back_is, same_back, take_back_refused}
use Rattle.abi_input.proofs.taking.take_back.Goals as goal

pub returns-in_err-entries-clause-answer : goal.returns-in_err-entries-clause-answer
returns-in_err-entries-clause-answer c =
    let p = err_from_is_err_and c.from_residual.result c.from_residual.ensures.1 in
    let laid = c.of-laid.result in
    rw (p.1, p.2)
    (take_back_refused c.args.region.now.bytes laid.region.now.bytes (accounts_of c.args.start.now) (accounts_of laid.start.now) (accounts_of c.args.now.now) c.args.metas.now laid.listings.metas.now _
    (ap (λ (r : Content). r.bytes) c.of-laid.ensures.region) (ap (λ (s : List _). accounts_of s) c.of-laid.ensures.start) c.of-laid.ensures.metas c.in_err-entries.ensures.err)

pub returns-clause-answer : goal.returns-clause-answer
returns-clause-answer c =
    let laid = c.of-laid.result in
    let same = same_back c.args.region.now.bytes laid.region.now.bytes (accounts_of c.args.start.now) (accounts_of laid.start.now) (accounts_of c.args.now.now) c.args.metas.now laid.listings.metas.now
    (ap (λ (r : Content). r.bytes) c.of-laid.ensures.region) (ap (λ (s : List _). accounts_of s) c.of-laid.ensures.start) c.of-laid.ensures.metas in
    sym same ∙ back_is laid.region.now.bytes (accounts_of laid.start.now) (accounts_of c.args.now.now)
    laid.listings.metas.now (accounts_of c.in_ok-taken_by.field-0.accounts) c.in_ok-entries.ensures.none
    c.in_ok-taken_by.ensures.accounts

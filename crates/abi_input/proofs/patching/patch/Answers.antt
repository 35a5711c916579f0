use Rattle.std.proofs.Common.{List, ap}
use Rattle.std.proofs.lemmas.Result.{err_from_is_err_and}
use Rattle.sol_base.specs.Accounts.{accounts_of}
use Rattle.abi_input.proofs.PatchLaws.{patch_refused}
use Rattle.abi_input.proofs.patching.patch.Goals as goal

pub returns-in_err-check_rooms-clause-answer : goal.returns-in_err-check_rooms-clause-answer
returns-in_err-check_rooms-clause-answer c =
    let p = err_from_is_err_and c.from_residual.result c.from_residual.ensures.1 in
    let laid = c.of-laid.result in
    rw (p.1, p.2)
    (patch_refused c.args.region.now.bytes (accounts_of c.args.start.now) (accounts_of laid.start.now) (accounts_of c.args.now.now) c.args.metas.now laid.listings.metas.now _
    (ap (λ (s : List _). accounts_of s) c.of-laid.ensures.start) c.of-laid.ensures.metas c.in_err-check_rooms.ensures.err)

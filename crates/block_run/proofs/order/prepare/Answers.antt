use Rattle.std.proofs.Common.{◌≡◌, ◌∙◌, subst, IfOk}
use Rattle.program_cache.specs.Programs.{programs_of}
use Rattle.program_cache.proofs.Listings.{programs-same}
use Rattle.block_run.specs.SerialRun.{keys_in}
use Rattle.block_run.proofs.order.prepare.Goals as goal

pub returns-clause-programs : goal.returns-clause-programs
returns-clause-programs g c =
    let made : c.in_ok-programs.field-0
    ≡ programs_of c.args.accounts.now c.in_ok-sorted.sorted = subst
    (λ r. IfOk r (λ p. p ≡ programs_of c.args.accounts.now c.in_ok-sorted.sorted)) c.in_ok-programs.was
    c.call_both-numbered.ensures.second in
    made ∙ programs-same c.args.accounts.now c.in_ok-sorted.sorted (keys_in c.args.order.now) (λ key. c.in_ok-sorted.ensures.same key)

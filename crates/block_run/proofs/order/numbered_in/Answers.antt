use Rattle.std.proofs.Common.{◌≡◌, ◌++◌, List, length, sym, ap, ap₂, subst, ◌∙◌, arith}
use Rattle.std.specs.Prelude.{slice_get}
use Rattle.sol_base.specs.declared.key.Key.{Key}
use Rattle.bank_core.specs.Openings.{AreKnown}
use Rattle.tx_exec.specs.AdmittedBlock.{locks_at}
use Rattle.tx_exec.proofs.Works.{works_are_lawful}
use Rattle.block_run.specs.SerialRun.{locked_in}
use Rattle.block_run.proofs.Declared.{keys_few, known}
use Rattle.block_run.proofs.order.numbered_in.Goals as goal

pub number_among-requires-clause-apart : goal.number_among-requires-clause-apart
number_among-requires-clause-apart g c κs within = (works_are_lawful (locked_in c.args.order.now) c.requires.chosen).distinct

pub number_among-requires-clause-few : goal.number_among-requires-clause-few
number_among-requires-clause-few g c =
    let same : c.extend_from_slice.new.self.items ≡ c.args.keys.now = c.in_ok-extend_from_slice.ensures.items ∙ ap₂ (λ (a b : List Key). a ++ b) c.in_ok-known.ensures.items c.as_slice.ensures in
    let long = ap length same in
    let fewer = c.requires.keys.fewer in
    let all = keys_few c.args.order.now c.requires.chosen in
    let few = c.requires.few in
    omega (arith, long, fewer, all, few)

pub number_among-requires-clause-known : goal.number_among-requires-clause-known
number_among-requires-clause-known g c κs within = λ i l.
    let same : c.extend_from_slice.new.self.items ≡ c.args.keys.now = c.in_ok-extend_from_slice.ensures.items ∙ ap₂ (λ (a b : List Key). a ++ b) c.in_ok-known.ensures.items c.as_slice.ensures in
    subst (λ ks. AreKnown ks (locks_at (slice_get c.args.order.now i))) (sym same) (known c.args.order.now c.args.keys.now c.requires.chosen c.requires.keys i l)

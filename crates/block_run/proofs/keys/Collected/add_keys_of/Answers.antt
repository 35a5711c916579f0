use Rattle.std.proofs.Common.{List, subst}
use Rattle.sol_base.specs.declared.key.Key.{Key}
use Rattle.block_run.specs.SerialRun.{AreKeysOf}
use Rattle.block_run.proofs.Collecting.{in_three}
use Rattle.block_run.proofs.keys.Collected.add_keys_of.Goals as goal

pub returns : goal.returns
returns c = λ all are.
    let keys = c.args.chosen.now.tx.message.keys in
    let loaded = c.args.chosen.now.loaded in
    subst (λ (ks : List Key). AreKeysOf ks c.add_all-3.new.self.keys.items)
    (in_three all c.as_slice.result.now c.as_slice-2.result.now c.as_slice-3.result.now keys loaded.writable loaded.readonly c.as_slice.ensures c.as_slice-2.ensures c.as_slice-3.ensures)
    (c.in_ok-add_all-3.ensures _ (c.in_ok-add_all-2.ensures _ (c.in_ok-add_all.ensures all are)))

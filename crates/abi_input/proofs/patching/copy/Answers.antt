use Rattle.std.proofs.Common.{arith, ◌∙◌}
use Rattle.std.proofs.lemmas.List.{length-take}
use Rattle.abi_input.proofs.Drafts.{copied_more}
use Rattle.abi_input.proofs.patching.copy.Goals as goal

pub loop-done-preserved : goal.loop-done-preserved
loop-done-preserved c = record {
  within = omega arith;
  bytes = copied_more c.args.region.now.bytes c.args.draft.now.bytes c.loop-done.draft.bytes c.append.new.self.bytes c.read.new.into c.args.at c.loop-done.done c.min-count.result _
      c.loop-done.invariant.bytes c.read.ensures c.in_ok-append.ensures.bytes (simp length-take (omega arith));
  lent = c.append.ensures.lent ∙ c.loop-done.invariant.lent;
}

use Rattle.tx_build.proofs.Merging.{joined_more}
use Rattle.tx_build.proofs.mentions.strongest_of.Goals as goal

pub loop-mention-preserved : goal.loop-mention-preserved
loop-mention-preserved c = joined_more c.args.mentions.now c.loop-mention.mention-index _
    c.loop-mention-test.true c.loop-mention.strongest c.join.new.strongest c.loop-mention.invariant
    c.in_ok-join.ensures

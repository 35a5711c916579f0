use Rattle.std.proofs.Common.{◌∙◌, ◌++◌, List, Option, ap, option_to_list, take}
use Rattle.std.specs.List.{flat_map, enumerate_from}
use Rattle.tx_build.specs.declared.mentions.Mention.{Mention}
use Rattle.tx_build.specs.Mentions.{added}
use Rattle.tx_build.proofs.Once.{once_more}
use Rattle.tx_build.proofs.Merging.{listed_here, unlisted_more}
use Rattle.tx_build.proofs.mentions.listed.Goals as goal

pub loop-mention-preserved : goal.loop-mention-preserved
loop-mention-preserved c =
    let mentions = c.as_slice-mentions.result.now in
    let i = c.loop-mention.mention-index in
    let below = c.loop-mention-test.true in (
      c.in_ok-list_once.ensures.moved
          ∙ rw c.loop-mention.invariant.0
          (ap (λ (l : List Mention). flat_map (added mentions) (enumerate_from 0 (take i mentions)) ++ l)
          (ap (λ (o : Option Mention). option_to_list o) (c.loop-mention.invariant.1 _)
          ∙ listed_here mentions i _ below) ∙ once_more (added mentions) i mentions _ below),
      unlisted_more
          mentions i _ below c.loop-mention.unlisted c.list_once.new.unlisted c.loop-mention.invariant.1
          c.in_ok-list_once.ensures.left,
    )

use Rattle.std.proofs.Common.{◌∙◌, Some, ap, Option, if◌then◌else◌}
use Rattle.std.specs.BTreeMap.{get}
use Rattle.sol_base.specs.Keys.{key_cmp}
use Rattle.tx_build.specs.declared.mentions.Mention.{Mention}
use Rattle.tx_build.specs.Mentions.{is_of, joined}
use Rattle.tx_build.proofs.Merging.{get_changed}
use Rattle.tx_build.proofs.mentions.join.Goals as goal

pub returns : goal.returns
returns c = λ key.
    get_changed c.args.strongest.now c.insert.new.self c.args.mention.now.key (Some c.joined.result) c.in_ok-insert.ensures.updates.0 key
    ∙ ap (λ (m : Mention). if is_of key c.args.mention.now then Some m else get key_cmp c.args.strongest.now
    key) (c.joined.ensures ∙ ap (λ (o : Option Mention). joined o c.args.mention.now)
    (c.copied-before.ensures ∙ c.get.ensures.value))

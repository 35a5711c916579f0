use Rattle.std.proofs.Common.{map, option_map}
use Rattle.std.proofs.lemmas.Result.{err_from_is_err_and}
use Rattle.command_words.specs.Arguments.{setting_of, settings_in}
use Rattle.command_words.specs.Shapes.{rules_of}
use Rattle.command_words.proofs.Words.{refused, started}
use Rattle.command_words.proofs.arguments.arguments_in.Goals as goal

pub returns-in_err-name : goal.returns-in_err-name
returns-in_err-name c =
    let p = err_from_is_err_and c.from_residual.result c.from_residual.ensures.1 in
    rw (p.1, p.2)
    (refused (rules_of c.args.shape.now) (map setting_of c.loop-others.arguments.items)
    (option_map (λ o. o.now) c.loop-others.waits)
    c.loop-others.others.now _ c.in_err-name.field-0.0
    (settings_in (rules_of c.args.shape.now) (map (λ w. w.now) c.args.words.now))
    c.in-len1-up.len_at_least c.loop-others.invariant
    (rw c.as_slice.ensures.value at c.in_err-name.ensures))

pub loop-others-preserved : goal.loop-others-preserved
loop-others-preserved c =
    started (rules_of c.args.shape.now) (map setting_of c.loop-others.arguments.items) _
    (option_map (λ o. o.now) c.loop-others.waits) _
    c.loop-others.others.now _ _ (settings_in (rules_of c.args.shape.now) (map (λ w. w.now) c.args.words.now))
    c.in-len1-up.len_at_least c.loop-others.invariant
    (rw c.as_slice.ensures.value at c.in_ok-name.ensures) c.in_ok-next.ensures.settings
    c.in_ok-next.ensures.waits

use Rattle.std.proofs.Common.{sym, ap, ◌∙◌}
use Rattle.std.specs.Prelude.{option_map}
use Rattle.sbpf_asm.specs.Assembly.{led_to, linked}
use Rattle.sbpf_asm.specs.Views.{labels_view, placed_view}
use Rattle.sbpf_asm.proofs.Labels.{place_found}
use Rattle.sbpf_asm.proofs.assembler.linked.Goals as goal

pub returns-in-Some : goal.returns-in-Some
returns-in-Some c =
    let p = placed_view c.args.placed in
    let entries = c.args.labels.now.entries in
    c.led_to.ensures
    ∙ ap (led_to p) (c.copied.ensures ∙ c.get.ensures.value ∙ sym (place_found c.in-Some.name.now entries))
    ∙ sym (ap (λ o. linked (labels_view entries) p (option_map (λ name. name.now) o)) c.in-Some.is)

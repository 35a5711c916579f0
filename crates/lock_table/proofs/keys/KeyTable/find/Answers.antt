use Rattle.std.proofs.Common.{◌∙◌, ap}
use Rattle.lock_table.specs.Numbers.{number_of}
use Rattle.lock_table.proofs.HashedLaws.{number_in}
use Rattle.lock_table.proofs.keys.KeyTable.find.Goals as goal

pub returns-in_err-number : goal.returns-in_err-number
returns-in_err-number c =
    c.from_residual.ensures ∙ c.in_err-number.ensures.index ∙ number_in (record { 0 = c.args.key.now }) c.self.inside.keys.keys
    ∙ ap (λ ks. number_of ks c.args.key.now) c.self.view_is

pub returns : goal.returns
returns c =
    c.in_ok-number.ensures.index ∙ number_in (record { 0 = c.args.key.now }) c.self.inside.keys.keys
    ∙ ap (λ ks. number_of ks c.args.key.now) c.self.view_is

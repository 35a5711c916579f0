use Rattle.std.proofs.Common.{Some, ◌∙◌, sym, ap}
use Rattle.lock_table.specs.Numbers.{number_of, with_key}
use Rattle.lock_table.specs.Tables.{keys_in}
use Rattle.lock_table.proofs.HashedLaws.{on_err, absent_in, keys_put, number_put}
use Rattle.lock_table.proofs.keys.KeyTable.number.Goals as goal

pub returns-in_err-number-clause-absent : goal.returns-in_err-number-clause-absent
returns-in_err-number-clause-absent c =
    on_err c.from_residual.result (sym (ap (λ ks. number_of ks c.args.key) c.self.view_is)
    ∙ absent_in c.self.inside.keys.keys (record { 0 = c.args.key }) c.in_err-number.ensures.absent)

pub returns-clause-keys : goal.returns-clause-keys
returns-clause-keys c =
    ap keys_in c.in_ok-number.ensures.keys
    ∙ (keys_put c.self.inside.keys.keys (record { 0 = c.args.key }) ∙ ap (λ ks. with_key ks c.args.key) c.self.view_is)

pub returns-clause-number : goal.returns-clause-number
returns-clause-number c =
    ap (λ ks. number_of ks c.args.key) (ap keys_in c.in_ok-number.ensures.keys ∙ keys_put c.self.inside.keys.keys (record { 0 = c.args.key }))
    ∙ (number_put c.self.inside.keys.keys (record { 0 = c.args.key }) ∙ ap Some (sym c.in_ok-number.ensures.index))

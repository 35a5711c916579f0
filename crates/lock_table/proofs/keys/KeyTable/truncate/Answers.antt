use Rattle.std.proofs.Common.{◌∙◌, sym, ap, take}
use Rattle.std.proofs.lemmas.List.{take-map}
use Rattle.lock_table.specs.declared.hashed.HashedKey.{HashedKey}
use Rattle.lock_table.specs.Tables.{keys_in}
use Rattle.lock_table.proofs.keys.KeyTable.truncate.Goals as goal

pub returns : goal.returns
returns c =
    ap keys_in c.truncate.ensures.keys
    ∙ (sym (take-map (λ (key : HashedKey). key.0) c.args.len c.self.inside.keys.keys) ∙ ap (take c.args.len) c.self.view_is)

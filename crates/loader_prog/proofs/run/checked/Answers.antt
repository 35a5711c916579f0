use Rattle.std.proofs.Common.{List, ap, ◌∙◌}
use Rattle.std.specs.Prelude.{slice_get}
use Rattle.sol_base.specs.Accounts.{accounts_of}
use Rattle.loader_prog.proofs.Replacing.{replaced_unlisted}
use Rattle.loader_prog.proofs.run.checked.Goals as goal

pub check_listed-requires-clause-unlisted : goal.check_listed-requires-clause-unlisted
check_listed-requires-clause-unlisted c =
    λ place unlisted. ap (λ (l : List _). slice_get (accounts_of l) place) c.as_slice.ensures
    ∙ replaced_unlisted c.args.metas.now (accounts_of c.args.accounts.now) c.place_of.result c.args.written
    c.in_ok-after.after.touched.items (accounts_of c.in_ok-after.after.accounts) c.requires.there
    c.place_of.ensures c.in_ok-after.ensures place unlisted

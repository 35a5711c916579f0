use Rattle.std.proofs.Common.{◌≡◌, ◌<◌, length, get_or, ap, arith}
use Rattle.std.specs.Arc.{arc_value}
use Rattle.std.proofs.lemmas.List.{length-map}
use Rattle.std.proofs.lemmas.Result.{on_ok_weaker}
use Rattle.sol_base.specs.Accounts.{accounts_of}
use Rattle.system_prog.specs.Drafts.{changed}
use Rattle.system_prog.specs.SystemProgram.{account_at}
use Rattle.system_prog.proofs.Drafts.{changed_at, lamports_set}
use Rattle.system_prog.proofs.draft.Draft.change.Goals as goal

pub returns-clause-ok : goal.returns-clause-ok
returns-clause-ok c =
    let shares = c.self.inside.shares.items in
    let are : accounts_of shares ≡ c.args.self.now = c.self.view_is in
    let below : c.args.place < length shares = omega (arith, length-map shares (λ share. arc_value share), ap length are, c.requires) in
    let is : c.index_mut.result.now ≡ get_or shares c.args.place c.index_mut.result.now = cc in
    on_ok_weaker c.change_one.result (λ made. changed_at shares c.args.self.now c.args.place c.index_mut.result.now c.change_one.new.share c.args.change are below is made) c.change_one.ensures

pub returns-clause-lamports : goal.returns-clause-lamports
returns-clause-lamports c =
    on_ok_weaker c.change_one.result (λ set. lamports_set c.args.self.now _ c.args.place (changed c.args.change (account_at c.args.self.now c.args.place)) c.requires set) (returns-clause-ok c)

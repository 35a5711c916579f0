use Rattle.std.proofs.Common.{◌≡◌, true, refl, sym, ◌∙◌}
use Rattle.ledger_store.specs.Adding.{is_later}
use Rattle.ledger_store.proofs.Survived.{lasts, placed, stopped, unchanged}
use Rattle.ledger_store.proofs.adding.add.Goals as goal

pub returns-then-not-is_later-clause-any_moment : goal.returns-then-not-is_later-clause-any_moment
returns-then-not-is_later-clause-any_moment g c has = unchanged c.args.ledger.now c.args.block.now
    c.args.after c.args.micros (g.F.Folder.events c.args.folder.now) (g.F.Folder.events c.args.folder.now)
    c.requires.opens refl

pub returns-in_err-files-clause-any_moment : goal.returns-in_err-files-clause-any_moment
returns-in_err-files-clause-any_moment g c has = unchanged c.args.ledger.now c.args.block.now c.args.after
    c.args.micros (g.F.Folder.events c.args.folder.now) (g.F.Folder.events c.args.folder.now) c.requires.opens
    refl

pub returns-in_err-push-clause-any_moment : goal.returns-in_err-push-clause-any_moment
returns-in_err-push-clause-any_moment g c has = unchanged c.args.ledger.now c.args.block.now c.args.after
    c.args.micros (g.F.Folder.events c.args.folder.now) (g.F.Folder.events c.args.folder.now) c.requires.opens
    refl

pub returns-in_err-place_block-clause-any_moment : goal.returns-in_err-place_block-clause-any_moment
returns-in_err-place_block-clause-any_moment g c has =
    let is_after : is_later c.args.ledger.now.head c.args.after.slot ≡ true = sym c.is_later.ensures ∙ c.if-not-is_later.false in
    stopped c.args.ledger.now c.args.block.now c.args.after c.args.micros (g.F.Folder.events c.args.folder.now)
    (g.F.Folder.events c.place_block.new.folder) c.requires.opens c.requires.every c.requires.before
    c.requires.after c.requires.follows is_after c.in_ok-files.files c.in_ok-files.ensures has
    c.in_err-place_block.ensures.stopped

pub returns-clause-any_moment : goal.returns-clause-any_moment
returns-clause-any_moment g c has =
    let is_after : is_later c.args.ledger.now.head c.args.after.slot ≡ true = sym c.is_later.ensures ∙ c.if-not-is_later.false in
    placed c.args.ledger.now c.args.block.now c.args.after c.args.micros (g.F.Folder.events c.args.folder.now)
    (g.F.Folder.events c.place_block.new.folder) c.requires.opens c.requires.every c.requires.before
    c.requires.after c.requires.follows is_after c.in_ok-files.files c.in_ok-files.ensures has
    c.in_ok-place_block.ensures.placed

pub returns-clause-lasts : goal.returns-clause-lasts
returns-clause-lasts g c has =
    let is_after : is_later c.args.ledger.now.head c.args.after.slot ≡ true = sym c.is_later.ensures ∙ c.if-not-is_later.false in
    lasts c.args.ledger.now c.args.block.now c.args.after c.args.micros (g.F.Folder.events c.args.folder.now)
    (g.F.Folder.events c.place_block.new.folder) c.requires.opens c.requires.every c.requires.before
    c.requires.after c.requires.follows is_after c.in_ok-files.files c.in_ok-files.ensures has
    c.in_ok-place_block.ensures.placed

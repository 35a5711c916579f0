use Rattle.std.proofs.Common.{◌∙◌}
use Rattle.ledger_store.proofs.Begun.{begin_ends, begins, begins_open, only_read}
use Rattle.ledger_store.proofs.adding.create.Goals as goal

pub returns-clause-made : goal.returns-clause-made
returns-clause-made g c =
    begins c.args.snapshot.now c.args.every c.place_chain.result (g.F.Folder.events c.args.folder.now)
    (g.F.Folder.events c.is_vacant.new.folder) (g.F.Folder.events c.place_chain.new.folder)
    c.as_slice.result.now c.as_slice-2.result.now
    (c.as_slice.ensures ∙ c.in_ok-state.ensures) (c.as_slice-2.ensures ∙ c.in_ok-head.ensures) (c.in_ok-vacant.ensures.vacant c.if-not-vacant.false) c.place_chain.ensures.placed

pub returns-clause-opens : goal.returns-clause-opens
returns-clause-opens g c has =
    begins_open c.args.snapshot.now c.args.every c.requires.every c.ranges.every.fits c.requires.readable has
    c.place_chain.result (g.F.Folder.events c.args.folder.now) (g.F.Folder.events c.place_chain.new.folder)
    (begins c.args.snapshot.now c.args.every c.place_chain.result (g.F.Folder.events c.args.folder.now)
    (g.F.Folder.events c.is_vacant.new.folder) (g.F.Folder.events c.place_chain.new.folder)
    c.as_slice.result.now c.as_slice-2.result.now
    (c.as_slice.ensures ∙ c.in_ok-state.ensures) (c.as_slice-2.ensures ∙ c.in_ok-head.ensures) (c.in_ok-vacant.ensures.vacant c.if-not-vacant.false) c.place_chain.ensures.placed)

pub returns-clause-any_moment : goal.returns-clause-any_moment
returns-clause-any_moment g c has =
    begin_ends c.args.snapshot.now c.args.every c.requires.every c.ranges.every.fits c.requires.readable has
    c.place_chain.result (g.F.Folder.events c.args.folder.now) (g.F.Folder.events c.is_vacant.new.folder)
    (g.F.Folder.events c.place_chain.new.folder) c.as_slice.result.now c.as_slice-2.result.now
    (c.as_slice.ensures ∙ c.in_ok-state.ensures) (c.as_slice-2.ensures ∙ c.in_ok-head.ensures) c.is_vacant.ensures.reads c.place_chain.ensures.placed c.place_chain.ensures.stopped

pub returns-in_err-vacant-clause-any_moment : goal.returns-in_err-vacant-clause-any_moment
returns-in_err-vacant-clause-any_moment g c has = only_read c.args.snapshot.now c.args.every c.requires.every
    c.ranges.every.fits c.requires.readable has (g.F.Folder.events c.args.folder.now)
    (g.F.Folder.events c.is_vacant.new.folder) c.is_vacant.ensures.reads

pub returns-then-not-vacant-clause-any_moment : goal.returns-then-not-vacant-clause-any_moment
returns-then-not-vacant-clause-any_moment g c has = only_read c.args.snapshot.now c.args.every c.requires.every
    c.ranges.every.fits c.requires.readable has (g.F.Folder.events c.args.folder.now)
    (g.F.Folder.events c.is_vacant.new.folder) c.is_vacant.ensures.reads

pub returns-then-not-vacant-clause-exists : goal.returns-then-not-vacant-clause-exists
returns-then-not-vacant-clause-exists g c same = c.in_ok-vacant.ensures.taken c.if-not-vacant.true

pub returns-in_err-state-clause-any_moment : goal.returns-in_err-state-clause-any_moment
returns-in_err-state-clause-any_moment g c has = only_read c.args.snapshot.now c.args.every c.requires.every
    c.ranges.every.fits c.requires.readable has (g.F.Folder.events c.args.folder.now)
    (g.F.Folder.events c.is_vacant.new.folder) c.is_vacant.ensures.reads

pub returns-in_err-head-clause-any_moment : goal.returns-in_err-head-clause-any_moment
returns-in_err-head-clause-any_moment g c has = only_read c.args.snapshot.now c.args.every c.requires.every
    c.ranges.every.fits c.requires.readable has (g.F.Folder.events c.args.folder.now)
    (g.F.Folder.events c.is_vacant.new.folder) c.is_vacant.ensures.reads

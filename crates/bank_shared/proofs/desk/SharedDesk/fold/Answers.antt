use Rattle.std.proofs.Common.{rules, ap}
use mathlib.Core.Option.{none}
use Rattle.atomic_table.specs.Table.{step}
use Rattle.bank_shared.proofs.Moves.{joins, looks}
use Rattle.bank_shared.proofs.Turns.{folds_at}
use Rattle.bank_shared.proofs.UnderTurn.{of_desk}
use Rattle.bank_shared.proofs.desk.SharedDesk.fold.Goals as goal

pub join_seat-requires : goal.join_seat-requires
join_seat-requires g c = (search rules, search rules, search rules, search rules, joins _ _ _ _ _ _ _ _)

pub load-requires : goal.load-requires
load-requires g c = (search rules, search rules, looks _ _ _ _ _ _ _ (step c.args.self.now.table.shared.table_id.slots 0 0 0 none))

pub returns-clause-kept : goal.returns-clause-kept
returns-clause-kept g c = (folds_at c.args.pass.now.lane c.args.pass.now.seat.me.0 c.args.seat.me.0 _ _ _
    c.args.pass.now.no_parts c.requires.slot.1 (of_desk _ _ c.requires.desk c.args.pass.now.lane_is)
    (ap (λ m. m.0) c.join_seat.ensures.2) c.load.ensures.2).0

pub returns-clause-other : goal.returns-clause-other
returns-clause-other g c = (folds_at c.args.pass.now.lane c.args.pass.now.seat.me.0 c.args.seat.me.0 _ _ _
    c.args.pass.now.no_parts c.requires.slot.1 (of_desk _ _ c.requires.desk c.args.pass.now.lane_is)
    (ap (λ m. m.0) c.join_seat.ensures.2) c.load.ensures.2).1

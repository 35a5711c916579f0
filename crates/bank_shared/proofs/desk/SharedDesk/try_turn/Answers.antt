use Rattle.std.proofs.Common.{rules, ◌+◌}
use mathlib.Core.Option.{none}
use Rattle.bank_shared.proofs.Moves.{takes_at, holds_some, gets_some, miss}
use Rattle.bank_shared.proofs.desk.SharedDesk.try_turn.Goals as goal

pub compare_exchange-found-requires : goal.compare_exchange-found-requires
compare_exchange-found-requires g c =
    (search rules, search rules, takes_at _ _ _ _ _ _ _ c.args.seat.now.me none c.requires.empty c.requires.desk c.requires.word)

pub exchange-requires : goal.exchange-requires
exchange-requires g c = (
  search rules,
  holds_some _ _ _ c.args.self.now.table.shared.key.value
      c.args.self.now.table.shared.table_id.slots c.args.word (c.args.word + 1) _ _ _ c.if-found-word.false
      c.compare_exchange-found.ensures.2,
)

pub returns-clause-none : goal.returns-clause-none
returns-clause-none g c =
    (gets_some _ _ _ c.args.self.now.table.shared.key.value c.args.self.now.table.shared.table_id.slots
    c.args.word (c.args.word + 1) _ _ _ c.requires.desk c.if-found-word.false
    c.compare_exchange-found.ensures.2 _ _ c.exchange.ensures.2 c.exchange.ensures.3 _).0

pub returns-clause-some : goal.returns-clause-some
returns-clause-some g c =
    (gets_some _ _ _ c.args.self.now.table.shared.key.value c.args.self.now.table.shared.table_id.slots
    c.args.word (c.args.word + 1) _ _ _ c.requires.desk c.if-found-word.false
    c.compare_exchange-found.ensures.2 _ _ c.exchange.ensures.2 c.exchange.ensures.3 (Unit {0})).1

pub returns-then-found-word-clause-none : goal.returns-then-found-word-clause-none
returns-then-found-word-clause-none g c =
    miss _ _ _ c.args.self.now.table.shared.key.value c.args.self.now.table.shared.table_id.slots c.args.word (c.args.word + 1) _ _ _ c.if-found-word.true c.compare_exchange-found.ensures.2

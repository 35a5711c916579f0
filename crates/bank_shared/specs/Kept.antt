-- What stands in the slot of a desk.
use Rattle.std.specs.Prelude.{List}
use Rattle.bank_law.specs.declared.event.Event.{Event}
use Rattle.bank_shared.specs.declared.kept.Kept.{Kept}
use Rattle.bank_shared.specs.declared.kept.DeskOrigin.{DeskOrigin}

module _ {W T : Type 0} {G : _} where
  -- what the desk tells of its core
  abbrev pub told_of : Kept W T G → DeskOrigin T
  told_of kept =
      record { origin = kept.core.value.origin.value; lanes = kept.core.value.lanes }

  -- the core's history
  abbrev pub journal_of : Kept W T G → List Event
  journal_of kept = kept.core.value.journal.items

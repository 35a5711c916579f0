-- What a call that only reads tells.
use Rattle.std.proofs.Common.{ℕ, List, ◌∷◌, subst}
use Rattle.ledger_folder.specs.declared.name.Name.TheVariants.{Block}
use Rattle.ledger_folder.specs.declared.event.Event.{Event}
use Rattle.ledger_folder.specs.declared.event.Event.TheVariants.{Listed}
use Rattle.ledger_folder.specs.Names.{has_slot}
use Rattle.ledger_folder.specs.Files.{Disk, Known, AllowsBlock, Lists}
use Rattle.ledger_folder.specs.Crash.{Shows}

-- a list of slots that was read is that of the files
pub shows-listed : (events : List Event) (slots : List ℕ) (disk : Disk) → Shows (Listed slots ∷ events) disk → Shows events disk × Lists disk slots
shows-listed events slots disk shows = (
  record {
    start = shows.start;
    honest = shows.honest.0;
    stands = record { holds = shows.stands.holds; lasts = shows.stands.lasts };
  },
  record {
    ascending = shows.honest.1.ascending;
    each = λ slot. subst (λ (k : Known). AllowsBlock k (has_slot slots slot)) (shows.stands.holds (Block slot)) (shows.honest.1.each slot);
  },
)

use Rattle.std.proofs.Common.{ℕ, None, List, sym, subst}
use Rattle.std.specs.Prelude.{slice_index_or}
use Rattle.block_shape.specs.declared.measure.Measure.TheVariants.{Units}
use Rattle.block_shape.specs.Starts.{StartEarliest}
use Rattle.block_shape.specs.Holders.{HolderIs}
use Rattle.block_shape.proofs.figure.shape_of.Goals as goal

pub last_holders-requires-clause-earliest : goal.last_holders-requires-clause-earliest
last_holders-requires-clause-earliest c =
    subst (λ (starts : List ℕ). StartEarliest Units c.args.order.now starts) (sym c.as_slice.ensures.value) c.in_ok-walk.ensures.earliest

pub returns : goal.returns
returns c = record {
  starts = c.in_ok-walk.ensures.length;
  earliest = c.in_ok-walk.ensures.earliest;
  holders = c.in_ok-holders.ensures.length;
  held = λ i l.
      subst (λ (starts : List ℕ). HolderIs Units c.args.order.now starts i (slice_index_or c.in_ok-holders.holders.items i None)) c.as_slice.ensures.value (c.in_ok-holders.ensures.holders i l);
  longest = record { starts = c.in_ok-walk.walk.starts.items; earliest = c.in_ok-walk.ensures.earliest; ends = c.in_ok-walk.ensures.longest };
  depth = record { starts = c.in_ok-chains.chains.starts.items; earliest = c.in_ok-chains.ensures.earliest; ends = c.in_ok-chains.ensures.longest };
  units = c.units_of.ensures;
}

use Rattle.std.proofs.Common.{rules, refl, ◌≡◌, ◌<◌, ◌∷◌, [], ◌++◌, Option, List, length, ap, sym, arith, length-append}
use Rattle.std.specs.Vec.Iter.{into_iter_items}
use Rattle.std.proofs.lemmas.Option.{get_or_from_slice_get}
use Rattle.std.proofs.lemmas.Grind.{common_steps}
use Rattle.bank_core.specs.Slots.{Shared}
use Rattle.bank_core.proofs.Merges.{held_first, held_more}
use Rattle.bank_core.proofs.finish.held_of.Goals as goal

pub loop-slot-init : goal.loop-slot-init
loop-slot-init c = record { so_far = held_first c.args.table.now _ c.new-held.ensures.items; count = refl; whole = search rules }

pub loop-slot-preserved : goal.loop-slot-preserved
loop-slot-preserved c =
    let i = c.loop-slot.invariant in
    let slot : Option Shared = c.in-Some.slot in
    let done : List (Option Shared) = c.loop-slot.yielded in
    let whole : (done ++ slot ∷ []) ++ into_iter_items c.next.new.self ≡ c.args.slots.items = grind (arith, common_steps) in
    let long = ap length whole in
    let a = length-append (done ++ slot ∷ []) (into_iter_items c.next.new.self) in
    let b = length-append done (slot ∷ []) in
    let below : length done < length c.args.table.now = omega (arith, long, a, b, c.requires) in
    record {
      so_far = held_more c.args.table.now done slot _ _ _ c.loop-slot.at i.count below (sym (get_or_from_slice_get c.args.table.now c.loop-slot.at c.key.result c.key.result c.key.ensures)) i.so_far c.in_ok-push_held.ensures;
      count = omega (arith, b, i.count);
      whole = whole;
    }

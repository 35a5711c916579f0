-- Drawing one transaction after the other.
use Rattle.std.proofs.Common.{◌≡◌, ℕ, ◌+◌, ◌-◌, ◌*◌, ◌%◌, suc, List, length, All, [], ◌∷◌, ◌++◌, refl, sym, arith}
use Rattle.std.specs.Prelude.{map}
use Rattle.std.proofs.Math.ListN.{get_or}
use Rattle.std.specs.List.{range_with_len}
use Rattle.std.proofs.lemmas.List.FromFn.{map-range_with_len_more, length-map-range_with_len}
use Rattle.std.proofs.lemmas.List.Elements.{All-map}
use Rattle.message_codec.specs.Wire.{tx_bytes}
use Rattle.snapshot_codec.specs.Batch.{IsShortWire}
use Rattle.batch_gen.proofs.Sizes.{transfer_len}
use Rattle.batch_gen.specs.declared.start.TheConstants.{USERS}
use Rattle.batch_gen.specs.declared.transfers.TheConstants.{PRICES}
use Rattle.batch_gen.specs.Generator.{state_after, draw, drawn_transfer, wire_of}

-- so many transactions were drawn, and the state is the one after them
pub record AreDrawn (number t x : ℕ) (drawn : List (List ℕ)) : Type 0 where
  pub state : x ≡ state_after (3 * t) number
  pub wires : drawn ≡ map (wire_of number) (range_with_len 0 t)

pub none_drawn : (number : ℕ) → AreDrawn number 0 number []
none_drawn number = record { state = refl; wires = refl }

pub one_more : (number t x : ℕ) (before after : List (List ℕ)) (wire : List ℕ) → AreDrawn number t x before → wire ≡ tx_bytes (drawn_transfer x (t + 1)) → after ≡ before ++ wire ∷ []
    → AreDrawn number (t + 1) (state_after 3 x) after
unfolding wire_of
one_more number t x before after wire so_far is_drawn pushed =
    let three : 3 * (t + 1) ≡ suc (suc (suc (3 * t))) = omega arith in
    let same : wire ≡ wire_of number t = rw so_far.state at is_drawn in
    record {
      state = rw (three, so_far.state) refl;
      wires = rw (pushed, so_far.wires, same) (sym (map-range_with_len_more (wire_of number) 0 t t (omega arith)));
    }

pub count_drawn : (number t x : ℕ) (drawn : List (List ℕ)) → AreDrawn number t x drawn → length drawn ≡ t
count_drawn number t x drawn so_far = rw so_far.wires (length-map-range_with_len (wire_of number) 0 t)

wire_is_short : (number t : ℕ) → IsShortWire (wire_of number t)
unfolding wire_of
wire_is_short number t =
    let x = state_after (3 * t) number in
    let from = draw x 1 % USERS in
    omega (arith, transfer_len from ((from + 1 + draw x 2 % (USERS - 1)) % USERS) (draw x 3 % PRICES) (t + 1))

pub drawn_are_short : (number t x : ℕ) (drawn : List (List ℕ)) → AreDrawn number t x drawn → All IsShortWire drawn
drawn_are_short number t x drawn so_far = rw so_far.wires (All-map IsShortWire (wire_of number) (range_with_len 0 t) (λ k d _. wire_is_short number (get_or (range_with_len 0 t) k d)))

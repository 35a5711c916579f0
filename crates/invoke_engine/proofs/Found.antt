-- Of the programs, frames look at those under the transaction's keys alone.
use Rattle.std.proofs.Common.{◌≡◌, ℕ, zero, suc, ◌∷◌, length, Bool, true, false, List, [], Option, Some, None, refl, ap, ◌∙◌, slice_get, if◌then◌else◌}
use Rattle.std.specs.Prelude.{nat_le, nat_lt, not, unwrap_or, ◌&&◌}
use Rattle.sol_base.specs.declared.key.Key.{Key}
use Rattle.sol_base.specs.declared.key.TheConstants.{SYSTEM_PROGRAM}
use Rattle.sol_base.specs.declared.account.Account.{Account}
use Rattle.tx_report.specs.LogLines.{Log}
use Rattle.program_cache.specs.Programs.{Sought}
use Rattle.abi_input.specs.Region.{max_metas}
use Rattle.invoke_engine.specs.declared.call.Call.{Call}
use Rattle.invoke_engine.specs.declared.call.Setting.{Setting}
use Rattle.invoke_engine.specs.Frames.{Carried, Running, Ending, Next, Runs, Done, Turn, GoesOn, Calls, Leaves, height, max_trace}
use Rattle.invoke_engine.specs.Turns.{turn}
use Rattle.invoke_engine.specs.Returning.{returned}
use Rattle.invoke_engine.specs.Native.{is_native}
use Rattle.invoke_engine.specs.Starting.{is_ready, crowded, program_started, entering, key_at, begun, started}
use Rattle.invoke_engine.specs.Frame.{after, follow, within, frame, go, instruction, nothing_returned}
use Rattle.invoke_engine.specs.FrameLaws.{SameFound}
use Rattle.invoke_engine.specs.Frames.{fixed}

by_test : {X : Type 0} (b : Bool) (x y x' y' : X) → x ≡ x' → (b ≡ false → y ≡ y') → (if b then x else y) ≡ (if b then x' else y')
by_test true x y x' y' h k = h
by_test false x y x' y' h k = k refl

same_test : {X : Type 0} (b b' : Bool) (x y : X) → b ≡ b' → (if b then x else y) ≡ (if b' then x else y)
same_test b b' x y h = ap (λ t. if t then x else y) h

-- a key that is not native was found among the keys, or it is the system program's
module _ (one other : Key → Sought) (setting : Setting) (keys : List Key) (same : SameFound keys one other) where
  same_at : (place : ℕ) → is_native (key_at keys place) ≡ false → one (key_at keys place) ≡ other (key_at keys place)
  same_at place h = by_place (slice_get keys place) refl h
    where
      by_place : (o : Option Key) → slice_get keys place ≡ o → is_native (unwrap_or o SYSTEM_PROGRAM) ≡ false → one (unwrap_or o SYSTEM_PROGRAM) ≡ other (unwrap_or o SYSTEM_PROGRAM)
      by_place None e native = absurd (cc)
      by_place (Some key) e native = same place key e

  ready_at : (place : ℕ) → (not (is_native (key_at keys place)) && is_ready (one (key_at keys place))) ≡ (not (is_native (key_at keys place)) && is_ready (other (key_at keys place)))
  ready_at place = by_kind (is_native (key_at keys place)) refl
    where
      by_kind : (b : Bool) → is_native (key_at keys place) ≡ b → (not b && is_ready (one (key_at keys place))) ≡ (not b && is_ready (other (key_at keys place)))
      by_kind true e = refl
      by_kind false e = ap is_ready (same_at place e)

  same_crowded : (place : ℕ) (outer : List Key) (units : ℕ) (c : Carried) → crowded one (key_at keys place) outer units c ≡ crowded other (key_at keys place) outer units c
  unfolding crowded
  same_crowded place outer units c = same_test _ _ _ _ (ready_at place)

  same_entering : (place : ℕ) (outer : List Key) (call : Call) (accounts : List Account) (units : ℕ) (c : Carried) →
      entering (fixed one setting keys) outer (key_at keys place) call accounts units c ≡ entering (fixed other setting keys) outer (key_at keys place) call accounts units c
  unfolding entering
  same_entering place outer call accounts units c =
      by_test (nat_lt max_metas (length call.metas)) _ _ _ _ (ap Done (same_crowded place outer units c))
      (λ few. by_test (is_native (key_at keys place)) _ _ _ _ refl (λ native. ap (program_started setting keys outer (key_at keys place) call accounts units c) (same_at place native)))

  same_begun : (outer : List Key) (call : Call) (accounts : List Account) (units : ℕ) (c : Carried)
      → begun (fixed one setting keys) outer call accounts units c
      ≡ begun (fixed other setting keys) outer call accounts units c
  unfolding begun
  same_begun outer call accounts units c = same_entering call.program outer call accounts units (started (key_at keys call.program) (height outer) c)

  same_after : (outer : List Key) (goo hoo : List Key → Running → Carried → Ending) (next next' : Next)
      → ((o : List Key) (f : Running) (c : Carried) → goo o f c ≡ hoo o f c) → next ≡ next'
      → after outer goo next ≡ after outer hoo next'
  same_after outer goo hoo next next' h e = there next ∙ ap (after outer hoo) e
    where
      there : (n : Next) → after outer goo n ≡ after outer hoo n
      there (Runs f c) = h outer f c
      there (Done ending) = refl

  same_follow : (outer : List Key) (goo hoo : List Key → Running → Carried → Ending) (t : Turn)
      → ((o : List Key) (f : Running) (c : Carried) → goo o f c ≡ hoo o f c)
      → follow (fixed one setting keys) outer goo t ≡ follow (fixed other setting keys) outer hoo t
  same_follow outer goo hoo (GoesOn f c) h = h outer f c
  same_follow outer goo hoo (Calls f c callee units) h =
      same_after outer goo hoo _ _ h (ap (returned outer f) (same_after (f.program ∷ outer) goo hoo _ _ h (same_begun (f.program ∷ outer) callee.call callee.accounts units c)))
  same_follow outer goo hoo (Leaves e) h = refl

  same_within : (n : ℕ) (outer : List Key) (f : Running) (c : Carried) → within (fixed one setting keys) n outer f c ≡ within (fixed other setting keys) n outer f c
  unfolding within
  same_within zero outer f c = refl
  same_within (suc n) outer f c = same_follow outer (within (fixed one setting keys) n) (within (fixed other setting keys) n) (turn setting keys outer f c) (same_within n)

  same_frame : (outer : List Key) (call : Call) (accounts : List Account) (units : ℕ) (c : Carried)
      → frame (fixed one setting keys) outer call accounts units c
      ≡ frame (fixed other setting keys) outer call accounts units c
  same_frame outer call accounts units c =
      same_after outer (go (fixed one setting keys)) (go (fixed other setting keys)) _ _ (λ o f d. same_within (suc f.machine.units) o f d) (same_begun outer call accounts units c)

-- of a whole instruction
pub same_instruction : (one other : Key → Sought) (setting : Setting) (keys : List Key) (call : Call) (accounts : List Account) (units trace : ℕ) (log : Log) → SameFound keys one other →
    instruction (fixed one setting keys) call accounts units trace log ≡ instruction (fixed other setting keys) call accounts units trace log
same_instruction one other setting keys call accounts units trace log same =
    by_test (nat_le max_trace trace) _ _ _ _ refl (λ few. same_frame one other setting keys same [] call accounts units (nothing_returned trace log))

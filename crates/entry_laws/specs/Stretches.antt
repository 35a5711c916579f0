-- The stretches of a run: a program runs from its start, or from the return of a program that it
-- called, to its next call or to its end.
use Rattle.std.specs.Prelude.{◌≡◌, ℕ, zero, suc, nat_le, List, [], ◌∷◌, ◌++◌, Result, Ok, Err, if◌then◌else◌, length, slice_get, Some, false, All}
use Rattle.sol_base.specs.declared.key.Key.{Key}
use Rattle.sol_base.specs.declared.account.Account.{Account}
use Rattle.sol_base.specs.Keys.{same_key}
use Rattle.account_rules.specs.KeptAccounts.{AreForeignKept}
use Rattle.message_codec.specs.declared.message.Instruction.{Instruction}
use Rattle.tx_report.specs.LogLines.{Log, no_lines}
use Rattle.tx_report.specs.declared.status.InstructionError.{InstructionError}
use Rattle.admission.specs.declared.chosen.Chosen.{Chosen}
use Rattle.invoke_engine.specs.declared.call.Call.{Call}
use Rattle.invoke_engine.specs.Frames.{max_trace}
use Rattle.invoke_engine.specs.Frame.{Fixed, Carried, Running, Ending, Next, Runs, Done, Turn, GoesOn, Calls, Leaves, after, begun, instruction, nothing_returned, returned, turn, within}
use Rattle.invoke_engine.specs.Starting.{key_at}
use Rattle.tx_exec.specs.Executing.{InBlock, call_of, fixed_for}
use Rattle.tx_exec.specs.Payer.{charged, total_fee}

-- the program that runs, and the accounts at the start and at the end of its stretch
pub record Stretch : Type 0 where
  pub program : Key
  pub before : List Account
  pub left : List Account

abbrev pub stretch : Key → List Account → List Account → Stretch
stretch program before left = record { program = program; before = before; left = left }

-- the program keeps owner, data and all lamports of each account that it does not own
abbrev pub KeepsWhatIsNotItsOwn : Stretch → Type 0
KeepsWhatIsNotItsOwn x = AreForeignKept (x.program ∷ []) x.before x.left

-- each begins with what the one before left, and leaves as many, from these accounts to those
abbrev pub IsChain : List Account → List Stretch → List Account → Type 0
IsChain first [] last = first ≡ last
IsChain first (x ∷ xs) last =
    (x.before ≡ first) × (length x.left ≡ length x.before) × IsChain x.left xs last

-- the account at this place is owned by the program of no stretch while that runs
abbrev pub ItsOwnerRests : ℕ → List Stretch → Type 0
ItsOwnerRests place parts =
    All (λ x. (was : Account) → slice_get x.before place ≡ Some was
    → same_key was.owner x.program ≡ false) parts

-- ---- of an instruction
-- the last stretch of a frame that ends well
abbrev pub ends_in : Key → List Account → Result (List Account) InstructionError → List Stretch
ends_in program before (Ok left) = stretch program before left ∷ []
ends_in program before (Err error) = []

-- those of what is next, where parts are those of a frame in its middle
abbrev pub stretches_next : Key → List Account → List Key
    → (List Key → Running → Carried → List Stretch) → Next → List Stretch
stretches_next program before outer parts (Runs f c) = parts outer f c
stretches_next program before outer parts (Done e) = ends_in program before e.result

-- those of a frame by its next turn: at a call its own ends, those of the callee follow, and then
-- those from the callee's return on
abbrev pub stretches_of_turn : Fixed → List Key → (List Key → Running → Carried → Ending)
    → (List Key → Running → Carried → List Stretch) → Running → Turn → List Stretch
stretches_of_turn s outer go parts f (GoesOn g c) = parts outer g c
stretches_of_turn s outer go parts f (Calls g c callee units) =
    let inner = g.program ∷ outer in
    let next = begun s inner callee.call callee.accounts units c in
    stretch f.program f.before callee.accounts
    ∷ (stretches_next (key_at s.keys callee.call.program) callee.accounts inner parts next
    ++ stretches_next f.program f.before outer parts (returned outer g (after inner go next)))
stretches_of_turn s outer go parts f (Leaves e) = ends_in f.program f.before e.result

-- those of a frame in its middle, with a bound on its turns
unfoldable pub stretches_within : Fixed → ℕ → List Key → Running → Carried → List Stretch
stretches_within s zero outer f c = []
stretches_within s (suc n) outer f c =
    stretches_of_turn s outer (within s n) (stretches_within s n) f
    (turn s.setting s.keys outer f c)

-- the bound is that of its ending
abbrev pub stretches_in : Fixed → List Key → Running → Carried → List Stretch
stretches_in s outer f c = stretches_within s (suc f.machine.units) outer f c

-- those of a top instruction, of which the 65th of a transaction is not started
abbrev pub stretches_of_instruction : Fixed → Call → List Account → ℕ → ℕ → Log → List Stretch
stretches_of_instruction s call accounts units trace log =
    if nat_le max_trace trace then []
    else stretches_next (key_at s.keys call.program) accounts [] (stretches_in s)
    (begun s [] call accounts units (nothing_returned trace log))

-- ---- of a transaction
-- those of the instructions after one that ended so: none where it failed
abbrev pub stretches_after : (List Account → ℕ → ℕ → Log → List Stretch)
    → Result (List Account) InstructionError → Ending → List Stretch
stretches_after on (Ok accounts) e = on accounts e.units e.carried.trace e.carried.log
stretches_after on (Err error) e = []

-- those of instructions, each on the accounts and with the units that the one before left
unfoldable pub stretches_of_all : Fixed → Chosen → List Instruction → List Account → ℕ → ℕ → Log
    → List Stretch
stretches_of_all s t [] accounts units trace log = []
stretches_of_all s t (i ∷ is) accounts units trace log =
    let e : Ending = instruction s (call_of t i) accounts units trace log in
    stretches_of_instruction s (call_of t i) accounts units trace log
    ++ stretches_after (stretches_of_all s t is) e.result e

-- those of a transaction, once its fee is paid
abbrev pub stretches_of : InBlock → Chosen → List Account → List Stretch
stretches_of block t values =
    stretches_of_all (fixed_for block t) t t.tx.message.instructions (charged values (total_fee t))
    t.budget.limit 0 no_lines

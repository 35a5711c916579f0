-- Frames and the log: it grows by lines that are texts, each with a byte at least.
use Rattle.std.proofs.Common.{◌≡◌, ◌==◌, ◌++◌, ◌∷◌, [], ℕ, zero, suc, length, List, Option, Some, None, Result, Ok, Err, IsUtf8, refl, lit≤}
use Rattle.std.specs.Prelude.{◌-◌, nat_lt, nat_le, not, ◌&&◌, codes, decimal}
use Rattle.std.proofs.lemmas.Str.{IsUtf8-append}
use Rattle.hex.specs.Hex.{encode_lower}
use Rattle.spec_base.proofs.PlainTexts.{decimal_text, words_text}
use Rattle.sol_base.proofs.KeyTexts.{encoded_text}
use Rattle.sol_base.specs.declared.key.Key.{Key}
use Rattle.sol_base.specs.declared.account.Account.{Account}
use Rattle.tx_report.specs.LogLines.{HasGrown, IsLine, Log}
use Rattle.tx_report.proofs.CauseTexts.{cause_text}
use Rattle.tx_report.proofs.GrownLogs.{HasGrown-none, HasGrown-with_line}
use Rattle.tx_report.specs.Statuses.{cause_text_of}
use Rattle.tx_report.specs.declared.status.InstructionError.{InstructionError}
use Rattle.tx_report.specs.declared.cause.Cause.TheVariants.{Abort, UnitsSpent, UnknownProgram, BadImage, Unverified, TooManyAccounts, TraceTooLong}
use Rattle.sbpf_machine.specs.Steps.{State, arguments_in, steps}
use Rattle.sbpf_machine.specs.declared.stop.Stop.{Stop}
use Rattle.sbpf_machine.specs.declared.stop.Stop.TheVariants.{Exit, Helper, Fault as Faulted}
use Rattle.sbpf_verify.specs.Faults.{fault_number}
use Rattle.sbpf_isa.specs.Calls.{invoke_call}
use Rattle.abi_input.specs.Region.{max_metas, patched}
use Rattle.program_cache.specs.Programs.{Sought, IsReady, IsAbsent, IsNoProgram, IsBad, IsUnverified}
use Rattle.sys_calls.specs.SysCalls.{Service}
use Rattle.sys_calls.specs.declared.fault.SysFault.{SysFault}
use Rattle.invoke_engine.specs.declared.begin.TheConstants.{NATIVE_UNITS}
use Rattle.invoke_engine.specs.declared.call.Call.{Call}
use Rattle.invoke_engine.specs.declared.call.Setting.{Setting}
use Rattle.invoke_engine.specs.declared.stopped.Stopped.{Stopped}
use Rattle.invoke_engine.specs.Lines.{program_line, invoke_line, consumed_line, last_line}
use Rattle.invoke_engine.specs.Frames.{Fixed, Carried, Running, Ending, Next, Runs, Done, Callee, Turn, GoesOn, Calls, Leaves, height, max_trace}
use Rattle.invoke_engine.specs.Endings.{say, error_of, or_error, ending_of, closed, closes}
use Rattle.invoke_engine.specs.Leaving.{left}
use Rattle.invoke_engine.specs.Calling.{called, calling, requested, call_turn}
use Rattle.invoke_engine.specs.Serving.{serving, served, serve_turn, env_of}
use Rattle.invoke_engine.specs.Turns.{at_stop, run_to, turn}
use Rattle.invoke_engine.specs.Returning.{patching, returning, returned}
use Rattle.invoke_engine.specs.Native.{is_native, native, native_row}
use Rattle.invoke_engine.specs.Starting.{key_at, refusing, program_started, is_ready, crowded, entering, started, begun}
use Rattle.invoke_engine.specs.Frame.{after, follow, within, go, frame, instruction, nothing_returned}
use Rattle.invoke_engine.specs.Reasons.{at, plainly, by_fault, by_sys, by_length}
use Rattle.invoke_engine.proofs.Fuel.{either}
use Rattle.sys_calls.proofs.GrownLogs.{sys_row-grows, words_line}

-- ---- the lines
program_line-written : (program : Key) (words : List ℕ) → IsUtf8 words → IsLine (program_line program words)
program_line-written program words text =
    words_line (codes "Program ") (encode_lower program.0 ++ words) (lit≤ tt) (words_text (codes "Program ") refl) (IsUtf8-append (encode_lower program.0) words (encoded_text program.0) text)

invoke_line-written : (program : Key) (height : ℕ) → IsLine (invoke_line program height)
invoke_line-written program height =
    program_line-written program (codes " invoke [" ++ decimal height ++ codes "]")
    (IsUtf8-append (codes " invoke [") (decimal height ++ codes "]") (words_text (codes " invoke [") refl)
    (IsUtf8-append (decimal height) (codes "]") (decimal_text height) (words_text (codes "]") refl)))

consumed_line-written : (program : Key) (used had : ℕ) → IsLine (consumed_line program used had)
consumed_line-written program used had =
    let of : List ℕ = codes " consumed " ++ decimal used ++ codes " of " in
    program_line-written program (codes " consumed " ++ decimal used ++ codes " of " ++ decimal had ++ codes " compute units")
    (IsUtf8-append (of ++ decimal had) (codes " compute units")
    (IsUtf8-append of (decimal had)
    (IsUtf8-append (codes " consumed " ++ decimal used) (codes " of ")
    (IsUtf8-append (codes " consumed ") (decimal used) (words_text (codes " consumed ") refl)
    (decimal_text used)) (words_text (codes " of ") refl)) (decimal_text had))
    (words_text (codes " compute units") refl))

last-written : (program : Key) (result : Result (List Account) InstructionError) → IsLine (last_line program result)
last-written program (Ok accounts) = program_line-written program (codes " success") (words_text (codes " success") refl)
last-written program (Err error) =
    program_line-written program (codes " failed: " ++ cause_text_of error.cause error.detail)
    (IsUtf8-append (codes " failed: ") (cause_text_of error.cause error.detail) (words_text (codes " failed: ") refl) (cause_text error.cause error.detail))

-- ---- the frames
module _ (before : Log) where
  said-grows : (c : Carried) (line : List ℕ) → HasGrown before c.log → IsLine line → HasGrown before (say line c).log
  said-grows c line grown one = HasGrown-with_line before c.log line one grown

  ending_of-grows : (program : Key) (units : ℕ) (c : Carried) (result : Result (List Account) InstructionError) → HasGrown before c.log → HasGrown before (ending_of program units c result).carried.log
  ending_of-grows program units c result grown = said-grows c (last_line program result) grown (last-written program result)

  closed-grows : (program : Key) (had units : ℕ) (c : Carried) (result : Result (List Account) InstructionError)
      → HasGrown before c.log → HasGrown before (closed program had units c result).carried.log
  closed-grows program had units c result grown =
      ending_of-grows program units (say (consumed_line program (had - units) had) c) result
      (said-grows c (consumed_line program (had - units) had) grown (consumed_line-written program (had - units) had))

  closes-grows : (outer : List Key) (f : Running) (units : ℕ) (c : Carried)
      (result : Result (List Account) Stopped) → HasGrown before c.log
      → HasGrown before (closes outer f units c result).carried.log
  closes-grows outer f units c result grown = closed-grows f.program f.had units c (or_error (height outer) result) grown

  started-grows : (key : Key) (height : ℕ) (c : Carried) → HasGrown before c.log → HasGrown before (started key height c).log
  started-grows key height c grown = HasGrown-with_line before c.log (invoke_line key height) (invoke_line-written key height) grown

  -- the log that is handed on
  abbrev NextGrows : Next → Type 0
  NextGrows (Runs f c) = HasGrown before c.log
  NextGrows (Done e) = HasGrown before e.carried.log

  abbrev TurnGrows : Turn → Type 0
  TurnGrows (GoesOn f c) = HasGrown before c.log
  TurnGrows (Calls f c callee units) = HasGrown before c.log
  TurnGrows (Leaves e) = HasGrown before e.carried.log

  calling-grows : (outer : List Key) (f : Running) (c : Carried) (left : ℕ) (answer : Result Callee Stopped) → HasGrown before c.log → TurnGrows (calling outer f c left answer)
  calling-grows outer f c left (Ok callee) grown = grown
  calling-grows outer f c left (Err stopped) grown = closes-grows outer f left c (Err stopped) grown

  serving-grows : (outer : List Key) (f : Running) (c : Carried) (left : ℕ) (answer : Result Service SysFault)
      → ((s : Service) → answer ≡ Ok s → HasGrown before s.log) → HasGrown before c.log
      → TurnGrows (serving outer f c left answer)
  serving-grows outer f c left (Ok service) given grown = given service refl
  serving-grows outer f c left (Err fault) given grown = closes-grows outer f left c (Err (by_sys fault)) grown

  stop-grows : (setting : Setting) (keys outer : List Key) (f : Running) (c : Carried) (stop : Option Stop) → HasGrown before c.log → TurnGrows (at_stop setting keys outer f c stop)
  stop-grows setting keys outer f c None grown = closes-grows outer f 0 c (Err (plainly Abort)) grown
  stop-grows setting keys outer f c (Some (Exit r0)) grown = closes-grows outer f f.machine.units c (left f r0) grown
  stop-grows setting keys outer f c (Some (Faulted fault)) grown = closes-grows outer f f.machine.units c (Err (by_fault fault)) grown
  stop-grows setting keys outer f c (Some (Helper number)) grown =
      either TurnGrows (number == invoke_call) (call_turn setting keys outer f c) (serve_turn setting outer f c number)
      (calling-grows outer f c (requested f).units (called setting.height keys outer f c.trace (requested f).answer) grown)
      (serving-grows outer f c (served setting outer f c number).units (served setting outer f c number).answer
      (λ s is. sys_row-grows before number (arguments_in f.machine.context.registers) f.machine.context.memory (env_of setting outer f c) s is grown) grown)

  run-grows : (setting : Setting) (keys outer : List Key) (f : Running) (c : Carried) (o : Option State) → HasGrown before c.log → TurnGrows (run_to setting keys outer f c o)
  run-grows setting keys outer f c None grown = closes-grows outer f 0 c (Err (plainly Abort)) grown
  run-grows setting keys outer f c (Some x) grown = stop-grows setting keys outer (record f { machine = x }) c x.stop grown

  turn-grows : (setting : Setting) (keys outer : List Key) (f : Running) (c : Carried) → HasGrown before c.log → TurnGrows (turn setting keys outer f c)
  unfolding turn
  turn-grows setting keys outer f c grown = run-grows setting keys outer f c (steps f.machine) grown

  patching-grows : (outer : List Key) (f : Running) (accounts : List Account) (units : ℕ) (c : Carried)
      (answer : Result (List ℕ) ℕ) → HasGrown before c.log
      → NextGrows (patching outer f accounts units c answer)
  patching-grows outer f accounts units c (Ok region) grown = grown
  patching-grows outer f accounts units c (Err i) grown = closes-grows outer f units c (Err (by_length i)) grown

  returning-grows : (outer : List Key) (f : Running) (units : ℕ) (c : Carried) (result : Result (List Account) InstructionError) → HasGrown before c.log → NextGrows (returning outer f units c result)
  returning-grows outer f units c (Ok accounts) grown = patching-grows outer f accounts units c (patched f.machine.context.memory.input.bytes f.start accounts f.metas) grown
  returning-grows outer f units c (Err error) grown = closed-grows f.program f.had units c (Err error) grown

  returned-grows : (outer : List Key) (f : Running) (e : Ending) → HasGrown before e.carried.log → NextGrows (returned outer f e)
  unfolding returned
  returned-grows outer f e grown = returning-grows outer f e.units e.carried e.result grown

  native-grows : (key : Key) (outer keys : List Key) (call : Call) (accounts : List Account) (units : ℕ)
      (c : Carried) → HasGrown before c.log → NextGrows (Done (native key outer keys call accounts units c))
  native-grows key outer keys call accounts units c grown =
      either (λ (e : Ending). HasGrown before e.carried.log) (nat_lt units NATIVE_UNITS) _ _
      (ending_of-grows key 0 c (Err (error_of (height outer) (plainly UnitsSpent))) grown)
      (ending_of-grows key (units - NATIVE_UNITS) c (or_error (height outer) (native_row key keys accounts call)) grown)

  refusing-grows : (key : Key) (outer : List Key) (units : ℕ) (c : Carried) (stopped : Stopped) → HasGrown before c.log → HasGrown before (refusing key outer units c stopped).carried.log
  refusing-grows key outer units c stopped grown = ending_of-grows key units c (Err (error_of (height outer) stopped)) grown

  entered-grows : (setting : Setting) (keys outer : List Key) (key : Key) (call : Call)
      (accounts : List Account) (units : ℕ) (c : Carried) (found : Sought) → HasGrown before c.log
      → NextGrows (program_started setting keys outer key call accounts units c found)
  entered-grows setting keys outer key call accounts units c (IsReady image) grown = grown
  entered-grows setting keys outer key call accounts units c IsAbsent grown = refusing-grows key outer units c (plainly UnknownProgram) grown
  entered-grows setting keys outer key call accounts units c IsNoProgram grown = refusing-grows key outer units c (plainly UnknownProgram) grown
  entered-grows setting keys outer key call accounts units c IsBad grown = refusing-grows key outer units c (plainly BadImage) grown
  entered-grows setting keys outer key call accounts units c (IsUnverified fault) grown = refusing-grows key outer units c (at Unverified (fault_number fault)) grown

  crowded-grows : (programs : Key → Sought) (key : Key) (outer : List Key) (units : ℕ) (c : Carried) → HasGrown before c.log → NextGrows (Done (crowded programs key outer units c))
  unfolding crowded
  crowded-grows programs key outer units c grown =
      either (λ (e : Ending). HasGrown before e.carried.log) (not (is_native key) && is_ready (programs key)) _ _
      (closed-grows key units units c (Err (error_of (height outer) (plainly TooManyAccounts))) grown) (refusing-grows key outer units c (plainly TooManyAccounts) grown)

  entering-grows : (s : Fixed) (outer : List Key) (key : Key) (call : Call) (accounts : List Account)
      (units : ℕ) (c : Carried) → HasGrown before c.log → NextGrows (entering s outer key call accounts units c)
  unfolding entering
  entering-grows s outer key call accounts units c grown =
      either NextGrows (nat_lt max_metas (length call.metas)) _ _
      (crowded-grows s.programs key outer units c grown)
      (either NextGrows (is_native key) _ _ (native-grows key outer s.keys call accounts units c grown)
      (entered-grows s.setting s.keys outer key call accounts units c (s.programs key) grown))

  begun-grows : (s : Fixed) (outer : List Key) (call : Call) (accounts : List Account) (units : ℕ) (c : Carried) → HasGrown before c.log → NextGrows (begun s outer call accounts units c)
  unfolding begun
  begun-grows s outer call accounts units c grown =
      entering-grows s outer (key_at s.keys call.program) call accounts units
      (started (key_at s.keys call.program) (height outer) c)
      (started-grows (key_at s.keys call.program) (height outer) c grown)

  -- whole frames
  abbrev Grow : (List Key → Running → Carried → Ending) → Type 0
  Grow goo = (outer : List Key) (f : Running) (c : Carried) → HasGrown before c.log → HasGrown before (goo outer f c).carried.log

  after-grows : (outer : List Key) (goo : List Key → Running → Carried → Ending) (next : Next) → Grow goo → NextGrows next → HasGrown before (after outer goo next).carried.log
  after-grows outer goo (Runs f c) keeps grown = keeps outer f c grown
  after-grows outer goo (Done e) keeps grown = grown

  follow-grows : (s : Fixed) (outer : List Key) (goo : List Key → Running → Carried → Ending) (t : Turn) → Grow goo → TurnGrows t → HasGrown before (follow s outer goo t).carried.log
  follow-grows s outer goo (GoesOn f c) keeps grown = keeps outer f c grown
  follow-grows s outer goo (Calls f c callee left) keeps grown =
      let inner : List Key = f.program ∷ outer in
      let next : Next = begun s inner callee.call callee.accounts left c in
      let e : Ending = after inner goo next in
      let one : HasGrown before e.carried.log = after-grows inner goo next keeps (begun-grows s inner callee.call callee.accounts left c grown) in
      after-grows outer goo (returned outer f e) keeps (returned-grows outer f e one)
  follow-grows s outer goo (Leaves e) keeps grown = grown

  within-grows : (s : Fixed) (n : ℕ) → Grow (within s n)
  unfolding within
  within-grows s zero outer f c grown = grown
  within-grows s (suc n) outer f c grown = follow-grows s outer (within s n) (turn s.setting s.keys outer f c) (within-grows s n) (turn-grows s.setting s.keys outer f c grown)

  pub log_grows : (s : Fixed) (call : Call) (accounts : List Account) (units trace : ℕ) (log : Log) → HasGrown before log → HasGrown before (instruction s call accounts units trace log).carried.log
  log_grows s call accounts units trace log grown =
      either (λ (e : Ending). HasGrown before e.carried.log) (nat_le max_trace trace)
      (record {
        units = units;
        carried = nothing_returned trace log;
        result = Err
            (error_of 1 (plainly TraceTooLong));
      }) (frame s [] call accounts units (nothing_returned trace log))
      grown
      (after-grows [] (go s) (begun s [] call accounts units (nothing_returned trace log)) (λ outer f c. within-grows s (suc f.machine.units) outer f c)
      (begun-grows s [] call accounts units (nothing_returned trace log) grown))

-- an instruction lets a log grow
pub instruction-grows : (s : Fixed) (call : Call) (accounts : List Account) (units trace : ℕ) (log : Log) → HasGrown log (instruction s call accounts units trace log).carried.log
instruction-grows s call accounts units trace log = log_grows log s call accounts units trace log (HasGrown-none log)

-- Served calls and the log: it grows by lines that are texts, each with a byte at least.
use Rattle.std.proofs.Common.{◌≡◌, ℕ, ◌-◌, ◌≤◌, Bool, true, false, List, [], ◌∷◌, ◌++◌, length, Result, Ok, Err, IsUtf8, refl, subst, lit≤, arith}
use Rattle.std.specs.Prelude.{nat_lt, codes, decimal, if◌then◌else◌}
use Rattle.std.specs.List.{flat_map}
use Rattle.std.specs.Fmt.{digits}
use Rattle.std.specs.Str.{is_utf8}
use Rattle.std.proofs.lemmas.List.{length-append}
use Rattle.std.proofs.lemmas.Str.{IsUtf8-append, IsUtf8-from_is_utf8}
use Rattle.hex.specs.Hex.{encode_lower}
use Rattle.spec_base.specs.Reading.{◌>>=◌, ok_if}
use Rattle.spec_base.proofs.PlainTexts.{decimal_text, hex_text, words_text}
use Rattle.sol_base.proofs.KeyTexts.{encoded_text}
use Rattle.sbpf_memory.specs.Memory.{Ranges}
use Rattle.tx_report.specs.LogLines.{HasGrown, IsLine, Log}
use Rattle.tx_report.proofs.GrownLogs.{HasGrown-none, HasGrown-with_line}
use Rattle.sys_calls.specs.declared.env.Env.{Env}
use Rattle.sys_calls.specs.declared.slices.Slice.{Slice}
use Rattle.sys_calls.specs.declared.table.SystemCall.{SystemCall}
use Rattle.sys_calls.specs.declared.table.SystemCall.TheVariants as Call
use Rattle.sys_calls.specs.declared.fault.SysFault.{SysFault}
use Rattle.sys_calls.specs.declared.fault.SysFault.TheVariants.{BadText, UnitsSpent, TooManySlices, ReturnTooLong}
use Rattle.sys_calls.specs.Access.{bytes_read, bytes_written}
use Rattle.sys_calls.specs.Slices.{slices_read, gathered, hash_of}
use Rattle.sys_calls.specs.Lines.{program_log, number_text, log_line, log_64_line, log_key_line, log_units_line}
use Rattle.sys_calls.specs.Costs.{call_numbered, cost_of, max_returned, max_slices, r1, r2, r3, r4, r5}
use Rattle.sys_calls.specs.SysCalls.{Service, SysAnswer, service, logged, answered, wrote, hashed, slices_hashed, at_cost, return_set, effect_of, sys_row}

-- ---- the lines
length-words : (words more : List ℕ) → 1 ≤ length words → 1 ≤ length (words ++ more)
length-words words more one = rw (length-append words more) (omega arith)

-- words with more behind them
pub words_line : (words more : List ℕ) → 1 ≤ length words → IsUtf8 words → IsUtf8 more → IsLine (words ++ more)
words_line words more one text rest = record { filled = length-words words more one; text = IsUtf8-append words more text rest }

abbrev Written : Result (List ℕ) SysFault → Type 0
Written (Ok line) = IsLine line
Written (Err e) = Unit {0}

said : (more : List ℕ) → IsUtf8 more → IsLine (program_log ++ more)
said more text = words_line program_log more (lit≤ tt) (words_text program_log refl) text

log_line-written : (m : Ranges) (text len : ℕ) → Written (log_line m text len)
unfolding log_line
log_line-written m text len = by_case (bytes_read m text len)
  where
    by_test : (bytes : List ℕ) (good : Bool) → is_utf8 bytes ≡ good → Written (ok_if good BadText (program_log ++ bytes))
    by_test bytes true e = said bytes (IsUtf8-from_is_utf8 bytes e)
    by_test bytes false e = tt

    by_case : (r : Result (List ℕ) SysFault) → Written (r >>= (λ bytes. ok_if (is_utf8 bytes) BadText (program_log ++ bytes)))
    by_case (Ok bytes) = by_test bytes (is_utf8 bytes) refl
    by_case (Err e) = tt

log_key_line-written : (m : Ranges) (key : ℕ) → Written (log_key_line m key)
unfolding log_key_line
log_key_line-written m key = by_case (bytes_read m key 32)
  where
    by_case : (r : Result (List ℕ) SysFault) → Written (r >>= (λ bytes. Ok (program_log ++ encode_lower bytes)))
    by_case (Ok bytes) = said (encode_lower bytes) (encoded_text bytes)
    by_case (Err e) = tt

number_text-text : (number : ℕ) → IsUtf8 (number_text number)
number_text-text number = IsUtf8-append (codes "0x") (digits 16 false number) (words_text (codes "0x") refl) (hex_text number)

others-text : (others : List ℕ) → IsUtf8 (flat_map (λ number. codes ", " ++ number_text number) others)
others-text [] = words_text [] refl
others-text (number ∷ others) =
    IsUtf8-append (codes ", " ++ number_text number) (flat_map (λ number. codes ", " ++ number_text number) others)
    (IsUtf8-append (codes ", ") (number_text number) (words_text (codes ", ") refl) (number_text-text number)) (others-text others)

log_64_line-written : (first : ℕ) (others : List ℕ) → IsLine (log_64_line first others)
log_64_line-written first others =
    let begins : IsLine (program_log ++ number_text first) = said (number_text first) (number_text-text first) in
    words_line (program_log ++ number_text first) (flat_map (λ number. codes ", " ++ number_text number) others) begins.filled begins.text (others-text others)

log_units_line-written : (units : ℕ) → IsLine (log_units_line units)
log_units_line-written units =
    words_line (codes "Program consumption: ") (decimal units ++ codes " units remaining") (lit≤ tt) (words_text (codes "Program consumption: ") refl)
    (IsUtf8-append (decimal units) (codes " units remaining") (decimal_text units) (words_text (codes " units remaining") refl))

-- ---- the calls
module _ (before : Log) where
  abbrev Grows : Result Service SysFault → Type 0
  Grows (Ok s) = HasGrown before s.log
  Grows (Err e) = Unit {0}

  line-grows : (m : Ranges) (env : Env) (line : List ℕ) → HasGrown before env.logs → IsLine line → Grows (logged m env (Ok line))
  line-grows m env line grown one = HasGrown-with_line before env.logs line one grown

  logged-grows : (m : Ranges) (env : Env) (line : Result (List ℕ) SysFault) → HasGrown before env.logs → Written line → Grows (logged m env line)
  logged-grows m env (Ok line) grown one = line-grows m env line grown one
  logged-grows m env (Err e) grown one = tt

  wrote-grows : (env : Env) (r : Result Ranges SysFault) → HasGrown before env.logs → Grows (wrote env r)
  wrote-grows env (Ok after) grown = grown
  wrote-grows env (Err e) grown = tt

  answered-grows : (env : Env) (r : Result (ℕ × Ranges) SysFault) → HasGrown before env.logs → Grows (answered env r)
  answered-grows env (Ok r) grown = grown
  answered-grows env (Err e) grown = tt

  hash_written-grows : (m : Ranges) (env : Env) (result units : ℕ) (hash : Result (List ℕ) SysFault)
      → HasGrown before env.logs → Grows
      (hash >>= (λ h. bytes_written m result h >>=
      (λ after. Ok (service 0 after (record env { units = units })))))
  hash_written-grows m env result units (Err e) grown = tt
  hash_written-grows m env result units (Ok hash) grown = wrote-grows (record env { units = units }) (bytes_written m result hash) grown

  hashed-grows : (m : Ranges) (env : Env) (slices count result : ℕ) → HasGrown before env.logs → Grows (hashed m env slices count result).answer
  unfolding hashed
  hashed-grows m env slices count result grown = by_case (nat_lt max_slices count) (slices_read m slices count)
    where
      by_case : (many : Bool) (r : Result (List Slice) SysFault) → Grows (if many then at_cost env (Err TooManySlices) else slices_hashed m env result r).answer
      by_case true r = tt
      by_case false (Ok s) = hash_written-grows m env result (gathered m env.units s).units (hash_of (gathered m env.units s).bytes) grown
      by_case false (Err e) = tt

  set-grows : (m : Ranges) (env : Env) (addr len : ℕ) → HasGrown before env.logs → Grows (return_set m env addr len)
  unfolding return_set
  set-grows m env addr len grown = by_case (nat_lt max_returned len) (bytes_read m addr len)
    where
      by_case : (long : Bool) (r : Result (List ℕ) SysFault)
          → Grows (if long then Err ReturnTooLong else r >>=
          (λ bytes. Ok (service 0 m (record env { returned = bytes; returned_by = env.program }))))
      by_case true r = tt
      by_case false (Ok bytes) = grown
      by_case false (Err e) = tt

  effect-grows : (call : SystemCall) (r : List ℕ) (m : Ranges) (env : Env) → HasGrown before env.logs → Grows (effect_of call r m env).answer
  effect-grows Call.Abort r m env grown = tt
  effect-grows Call.Log r m env grown = logged-grows m env _ grown (log_line-written m _ _)
  effect-grows Call.Log64 r m env grown = line-grows m env (log_64_line (r1 r) (r2 r ∷ r3 r ∷ r4 r ∷ r5 r ∷ [])) grown (log_64_line-written (r1 r) (r2 r ∷ r3 r ∷ r4 r ∷ r5 r ∷ []))
  effect-grows Call.LogKey r m env grown = logged-grows m env _ grown (log_key_line-written m _)
  effect-grows Call.LogUnits r m env grown = line-grows m env (log_units_line env.units) grown (log_units_line-written env.units)
  effect-grows Call.Sha256 r m env grown = hashed-grows m env _ _ _ grown
  effect-grows Call.Memcpy r m env grown = wrote-grows env _ grown
  effect-grows Call.Memmove r m env grown = wrote-grows env _ grown
  effect-grows Call.Memcmp r m env grown = wrote-grows env _ grown
  effect-grows Call.Memset r m env grown = wrote-grows env _ grown
  effect-grows Call.ProgramKey r m env grown = answered-grows env _ grown
  effect-grows Call.GetSlot r m env grown = wrote-grows env _ grown
  effect-grows Call.GetRent r m env grown = wrote-grows env _ grown
  effect-grows Call.SetReturn r m env grown = set-grows m env _ _ grown
  effect-grows Call.GetReturn r m env grown = answered-grows env _ grown
  effect-grows Call.GetHeight r m env grown = grown

  row-grows : (number : ℕ) (arguments : List ℕ) (m : Ranges) (env : Env) → HasGrown before env.logs → Grows (sys_row number arguments m env).answer
  unfolding sys_row
  row-grows number arguments m env grown = by_case (nat_lt env.units (cost_of (call_numbered number) arguments (length env.returned)))
    where
      by_case : (spent : Bool) → Grows
          (if spent then (let a : SysAnswer = record { units = 0; answer = Err UnitsSpent } in a) else effect_of
          (call_numbered number) arguments m
          (record env {
            units = env.units - cost_of (call_numbered number) arguments (length env.returned);
          })).answer
      by_case true = tt
      by_case false = effect-grows (call_numbered number) arguments m (record env { units = env.units - cost_of (call_numbered number) arguments (length env.returned) }) grown

  by_answer : (r : Result Service SysFault) (s : Service) → Grows r → r ≡ Ok s → HasGrown before s.log
  by_answer (Ok t) s grown h = let e : t ≡ s = cc in subst (λ (x : Service). HasGrown before x.log) e grown
  by_answer (Err e) s grown h = absurd (cc)

  -- a served call lets a log grow
  pub sys_row-grows : (number : ℕ) (arguments : List ℕ) (m : Ranges) (env : Env) (s : Service) → (sys_row number arguments m env).answer ≡ Ok s → HasGrown before env.logs → HasGrown before s.log
  sys_row-grows number arguments m env s h grown = by_answer (sys_row number arguments m env).answer s (row-grows number arguments m env grown) h

-- by its own lines alone
pub service-grows : (number : ℕ) (arguments : List ℕ) (m : Ranges) (env : Env) (s : Service) → (sys_row number arguments m env).answer ≡ Ok s → HasGrown env.logs s.log
service-grows number arguments m env s h = sys_row-grows env.logs number arguments m env s h (HasGrown-none env.logs)

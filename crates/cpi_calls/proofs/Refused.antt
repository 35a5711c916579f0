-- A callee is refused at a place of what is asked for, or behind the last.
use Rattle.std.proofs.Common.{◌+◌, ◌≤◌, ℕ, suc, Bool, true, false, List, [], ◌∷◌, length, map, Option, Some, None, cond, arith}
use Rattle.std.specs.Prelude.{IfErr, IfSome}
use Rattle.std.specs.List.{position_from}
use Rattle.spec_base.proofs.Refusing.{bind_refuses}
use Rattle.sol_base.specs.declared.key.Key.{Key}
use Rattle.sol_base.specs.declared.lock.Meta.{Meta}
use Rattle.cpi_calls.specs.declared.request.CallRequest.{CallRequest}
use Rattle.cpi_calls.specs.declared.fault.RightsFault.{RightsFault}
use Rattle.cpi_calls.specs.declared.fault.RightsFault.TheVariants.{MissingAccount, PrivilegeEscalation, OutOfMemory as no_room}
use Rattle.cpi_calls.specs.Rights.{exceeds, is_missing, meta_of, metas_found, or_escalation, or_missing, place_of, program_found, rights_of}

-- a refusal names one of so many places, or the one behind them
abbrev pub NamesUpTo : ℕ → RightsFault → Type 0
NamesUpTo count (MissingAccount i) = i ≤ count
NamesUpTo count (PrivilegeEscalation i) = i ≤ count
NamesUpTo count no_room = Unit {0}

later : (from count : ℕ) (o : Option ℕ) → IfSome o (λ i. i ≤ from + 1 + count) → IfSome o (λ i. i ≤ from + suc count)
later from count None h = tt
later from count (Some i) h = omega (arith, h)

place_within : {X : Type 0} (test : X → Bool) (from : ℕ) (xs : List X) → IfSome (position_from test from xs) (λ i. i ≤ from + length xs)
place_within test from [] = tt
place_within test from (x ∷ xs) = by_test (test x) (place_within test (from + 1) xs)
  where
    by_test : (b : Bool) → IfSome (position_from test (from + 1) xs) (λ i. i ≤ from + 1 + length xs) → IfSome (cond b (Some from) (position_from test (from + 1) xs)) (λ i. i ≤ from + length (x ∷ xs))
    by_test true rest = omega arith
    by_test false rest = later from (length xs) (position_from test (from + 1) xs) rest

missing_within : {X : Type 0} (count : ℕ) (o : Option ℕ) (x : X) → IfSome o (λ i. i ≤ 0 + count) → IfErr (or_missing o x) (NamesUpTo count)
missing_within count None x h = tt
missing_within count (Some i) x h = omega (arith, h)

escalation_within : (count : ℕ) (o : Option ℕ) → IfSome o (λ i. i ≤ 0 + count) → IfErr (or_escalation o) (NamesUpTo count)
escalation_within count None h = tt
escalation_within count (Some i) h = omega (arith, h)

program_within : (count : ℕ) (o : Option ℕ) → IfErr (program_found count o) (NamesUpTo count)
program_within count None = omega arith
program_within count (Some place) = tt

pub rights_within : (request : CallRequest) (keys : List Key) (caller : List Meta) → IfErr (rights_of request keys caller) (NamesUpTo (length request.metas))
unfolding rights_of
rights_within request keys caller =
    let count : ℕ = length request.metas in
    bind_refuses (NamesUpTo count) (metas_found keys caller request.metas) _
    (missing_within count (position_from (is_missing keys caller) 0 request.metas) (map (meta_of keys caller) request.metas) (place_within (is_missing keys caller) 0 request.metas))
    (λ metas found. bind_refuses (NamesUpTo count) (program_found count (place_of keys caller request.program)) _ (program_within count (place_of keys caller request.program))
    (λ program is. bind_refuses (NamesUpTo count) (or_escalation (position_from (exceeds keys request.signers caller) 0 request.metas)) _
    (escalation_within count (position_from (exceeds keys request.signers caller) 0 request.metas) (place_within (exceeds keys request.signers caller) 0 request.metas))
    (λ allowed passed. tt)))

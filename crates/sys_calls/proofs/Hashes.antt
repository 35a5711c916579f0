-- What the call that hashes slices answers.
use Rattle.std.proofs.Common.{◌≡◌, ℕ, ◌≤◌, Bool, true, false, List, Result, Ok, Err, refl, sym, ap, arith}
use Rattle.std.specs.Prelude.{nat_lt, MatchBool}
use Rattle.std.proofs.lemmas.Bool.Decides.{nat_tests}
use Rattle.sbpf_memory.specs.Memory.{Ranges}
use Rattle.sbpf_memory.specs.Plain.{plain_memory}
use Rattle.sys_calls.specs.declared.env.Env.{Env}
use Rattle.sys_calls.specs.declared.slices.Slice.{Slice}
use Rattle.sys_calls.specs.declared.fault.SysFault.{SysFault}
use Rattle.sys_calls.specs.Access.{is_sys_memory, bytes_written}
use Rattle.sys_calls.specs.Costs.{max_slices}
use Rattle.sys_calls.specs.Slices.{Gathered, slices_read, gathered, hash_of}
use Rattle.sys_calls.specs.SysCalls.{Does, KeepsBlock, hashed, hash_written}
use Rattle.sys_calls.proofs.Rows.{gathered-units}

pub few-slices : (count : ℕ) → count ≤ max_slices → nat_lt max_slices count ≡ false
few-slices count few = grind (arith, nat_tests)

-- the row once the slices are read
hashed-row : (m : Ranges) (env : Env) (slices count result : ℕ) (list : List Slice)
    → nat_lt max_slices count ≡ false → slices_read m slices count ≡ Ok list
    → hashed m env slices count result ≡ hash_written m env result (gathered m env.units list)
unfolding hashed
hashed-row m env slices count result list few read = rw (few, read) refl

told : {P : Type 0} (b : Bool) → P → MatchBool b (Unit {0}) P
told true p = tt
told false p = p

stops : {P Q : Type 0} (b : Bool) → (P → Q) → MatchBool b (Unit {0}) P → MatchBool b (Unit {0}) Q
stops true f p = tt
stops false f p = f p

refused-answer : (m : Ranges) (env : Env) (result : ℕ) (g : Gathered) (e : SysFault) → hash_of g.bytes ≡ Err e → (hash_written m env result g).answer ≡ Err e
refused-answer m env result g e h = rw h refl

write-answer : (m : Ranges) (env : Env) (result : ℕ) (g : Gathered) (hash : List ℕ) (e : SysFault)
    → hash_of g.bytes ≡ Ok hash → bytes_written m result hash ≡ Err e
    → (hash_written m env result g).answer ≡ Err e
write-answer m env result g hash e h k = rw (h, k) refl

block : (env : Env) (units : ℕ) → KeepsBlock env (record env { units = units })
block env units = record { slot = refl; program = refl; height = refl }

-- a slice is refused
pub slice-refused : (old new : Ranges) (env : Env) (slices count result units : ℕ) (list : List Slice) (e : SysFault) → count ≤ max_slices → slices_read (plain_memory old) slices count ≡ Ok list
    → (let r : Result (List ℕ) SysFault = Err e in r) ≡ hash_of (gathered (plain_memory old) env.units list).bytes → units ≡ (gathered (plain_memory old) env.units list).units → new ≡ old
    → Does (hashed (plain_memory old) env slices count result) old new env (record env { units = units }) (Err e)
slice-refused old new env slices count result units list e few read refused left same =
    let g = gathered (plain_memory old) env.units list in
    rw (hashed-row (plain_memory old) env slices count result list (few-slices count few) read) (
      told (is_sys_memory e) (refused-answer (plain_memory old) env result g e (sym refused)),
      λ input. sym left,
      block env units,
      rw left (gathered-units (plain_memory old) env.units list),
      (ap plain_memory same, refl),
      ap (λ (m : Ranges). m.input.lent) same,
    )

-- the hash is not written
pub hash-refused : (old new : Ranges) (env : Env) (slices count result units : ℕ) (list : List Slice)
    (hash : List ℕ) (e : SysFault) → count ≤ max_slices → slices_read (plain_memory old) slices count ≡ Ok list
    → (let r : Result (List ℕ) SysFault = Ok hash in r) ≡ hash_of (gathered (plain_memory old) env.units list).bytes → units ≡ (gathered (plain_memory old) env.units list).units
    → MatchBool (is_sys_memory e) (Unit {0}) (bytes_written (plain_memory old) result hash ≡ Err e) → plain_memory new ≡ plain_memory old → new.input.lent ≡ old.input.lent
    → Does (hashed (plain_memory old) env slices count result) old new env (record env { units = units }) (Err e)
hash-refused old new env slices count result units list hash e few read given left stopped same lent =
    let g = gathered (plain_memory old) env.units list in
    rw (hashed-row (plain_memory old) env slices count result list (few-slices count few) read) (
      stops (is_sys_memory e) (write-answer (plain_memory old) env result g hash e (sym given)) stopped,
      λ input.
          sym left,
      block env units,
      rw left (gathered-units (plain_memory old) env.units list),
      (same, refl),
      lent,
    )

written-answer : (m after : Ranges) (env : Env) (result units : ℕ) (g : Gathered) (hash : List ℕ) → hash_of g.bytes ≡ Ok hash → bytes_written m result hash ≡ Ok after → units ≡ g.units
    → (hash_written m env result g).answer ≡ Ok (record { r0 = 0; memory = after; log = env.logs; returned = env.returned; keeper = env.returned_by })
written-answer m after env result units g hash h k left = rw (h, k) refl

-- the hash is written
pub hash-written : (old new : Ranges) (env : Env) (slices count result units : ℕ) (list : List Slice) (hash : List ℕ) → count ≤ max_slices → slices_read (plain_memory old) slices count ≡ Ok list
    → (let r : Result (List ℕ) SysFault = Ok hash in r) ≡ hash_of (gathered (plain_memory old) env.units list).bytes → units ≡ (gathered (plain_memory old) env.units list).units
    → bytes_written (plain_memory old) result hash ≡ Ok (plain_memory new) → new.input.lent ≡ old.input.lent
    → Does (hashed (plain_memory old) env slices count result) old new env (record env { units = units }) (Ok 0)
hash-written old new env slices count result units list hash few read given left wrote lent =
    let g = gathered (plain_memory old) env.units list in
    rw (hashed-row (plain_memory old) env slices count result list (few-slices count few) read) (
      written-answer (plain_memory old) (plain_memory new) env result units g hash (sym given) wrote left,
      sym
          left,
      block env units,
      rw left (gathered-units (plain_memory old) env.units list),
      tt,
      lent,
    )

use Rattle.std.proofs.Common.{◌≡◌, ℕ, true, length, Some}
use Rattle.std.specs.Prelude.{slice_get}
use Rattle.sbpf_verify.specs.declared.entry.Entry.{Entry}
use Rattle.sbpf_verify.specs.Entries.{Decodes}
use Rattle.sbpf_verify.specs.Places.{is_start}
use Rattle.sbpf_verify.proofs.entry.entries_of.Given as goal

abbrev pub invariant-loop-place : goal.invariant-loop-place
invariant-loop-place l = record {
  count : length l.entries ≡ l.place;
  each : (k : ℕ) (e : Entry) → slice_get l.entries k ≡ Some e → is_start l.text k ≡ true → Decodes l.text k e;
}

use Rattle.std.proofs.Common.{◌≤◌, false, length, refl, sym, ◌∙◌, arith}
use Rattle.std.proofs.lemmas.List.{length-set}
use Rattle.std.proofs.lemmas.Option.{slice_get-get_or}
use Rattle.sol_base.specs.Accounts.{accounts_of}
use Rattle.abi_input.specs.Region.{entry_start, is_too_long}
use Rattle.abi_input.specs.Entries.{found_among}
use Rattle.abi_input.proofs.Entries.{start_more, start_within, start_zero}
use Rattle.abi_input.proofs.Finding.{found_here, none_more, place_of_found}
use Rattle.abi_input.proofs.TakeLaws.{entered_more, fresh_entries}
use Rattle.abi_input.proofs.taking.checked_entries.Goals as goal

pub loop-place-init : goal.loop-place-init
loop-place-init c = record {
  long = refl;
  entry = sym (start_zero (accounts_of c.args.laid.now.start.now) c.args.laid.now.listings.metas.now);
  entries = λ index. fresh_entries 256 index;
  none = refl;
}

pub is_refused-requires-clause-there : goal.is_refused-requires-clause-there
is_refused-requires-clause-there c = slice_get-get_or c.args.laid.now.listings.metas.now c.loop-place.place _ c.loop-place-test.true

pub returns-then-is_refused-clause-err : goal.returns-then-is_refused-clause-err
returns-then-is_refused-clause-err c =
    let test = is_too_long c.args.laid.now.region.now.bytes (accounts_of c.args.laid.now.start.now) c.args.laid.now.listings.metas.now in
    place_of_found (found_among test c.args.laid.now.listings.metas.now (length c.args.laid.now.listings.metas.now)) c.loop-place.place _
    (found_here test c.args.laid.now.listings.metas.now c.loop-place.place _ c.is_refused.result
    (slice_get-get_or c.args.laid.now.listings.metas.now c.loop-place.place _ c.loop-place-test.true)
    c.is_refused.ensures c.if-is_refused.true c.loop-place.invariant.none)

pub entry_len-entry-requires : goal.entry_len-entry-requires
entry_len-entry-requires c = slice_get-get_or c.args.laid.now.listings.metas.now c.loop-place.place _ c.loop-place-test.true

pub overflow_add-entry : goal.overflow_add-entry
overflow_add-entry c =
    let there = slice_get-get_or c.args.laid.now.listings.metas.now c.loop-place.place (record { index = 0; signer = false; writable = false }) c.loop-place-test.true in
    let whole : entry_start (accounts_of c.args.laid.now.start.now) c.args.laid.now.listings.metas.now
    (length c.args.laid.now.listings.metas.now) ≤ length c.args.laid.now.region.now.bytes =
    c.args.laid.now.whole in
    omega (arith, start_within (accounts_of c.args.laid.now.start.now) c.args.laid.now.listings.metas.now c.loop-place.place _ there, c.entry_len-entry.ensures, c.loop-place.invariant.entry)

pub loop-place-preserved : goal.loop-place-preserved
loop-place-preserved c =
    let there = slice_get-get_or c.args.laid.now.listings.metas.now c.loop-place.place (record { index = 0; signer = false; writable = false }) c.loop-place-test.true in
    let more = start_more (accounts_of c.args.laid.now.start.now) c.args.laid.now.listings.metas.now c.loop-place.place _ there in
    let long = c.loop-place.invariant.long in
    record {
      long = length-set c.loop-place.entries c.from-index.result c.or.result ∙ long;
      entry = omega (arith, more, c.entry_len-entry.ensures, c.loop-place.invariant.entry);
      entries = entered_more (accounts_of c.args.laid.now.start.now) c.args.laid.now.listings.metas.now
          c.loop-place.place _ c.loop-place.entries c.from-index.result c.loop-place.entry _ c.or.result there
          c.from-index.ensures (omega arith) c.or.ensures c.loop-place.invariant.entry
          c.loop-place.invariant.entries;
      none = none_more (is_too_long c.args.laid.now.region.now.bytes (accounts_of c.args.laid.now.start.now)
          c.args.laid.now.listings.metas.now) c.args.laid.now.listings.metas.now c.loop-place.place _
          c.is_refused.result there c.is_refused.ensures c.if-is_refused.false c.loop-place.invariant.none;
    }

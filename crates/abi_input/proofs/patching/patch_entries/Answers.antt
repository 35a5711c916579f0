use Rattle.std.proofs.Common.{◌≤◌, ◌++◌, ℕ, List, false, length, take, sym, ap, ◌∙◌, arith}
use Rattle.std.specs.List.{enumerate_from, flat_map}
use Rattle.std.proofs.lemmas.List.{append-nil}
use Rattle.std.proofs.lemmas.Option.{slice_get-get_or}
use Rattle.sol_base.specs.declared.account.Account.{Account}
use Rattle.sol_base.specs.Accounts.{accounts_of}
use Rattle.abi_input.specs.Region.{entry_start, lent_entry, patched_entry}
use Rattle.abi_input.proofs.Drafts.{then_more}
use Rattle.abi_input.proofs.Entries.{flat_all, flat_more, start_more, start_within, start_zero}
use Rattle.abi_input.proofs.Lent.{lent_whole}
use Rattle.abi_input.proofs.patching.patch_entries.Goals as goal

pub loop-place-init : goal.loop-place-init
loop-place-init c = record {
  bytes = sym (append-nil c.args.draft.now.bytes);
  lent = sym (append-nil c.args.draft.now.lent);
  size = c.requires.start ∙ sym (start_zero (accounts_of c.args.laid.now.start.now) c.args.laid.now.listings.metas.now);
  entry = sym (start_zero (accounts_of c.args.laid.now.start.now) c.args.laid.now.listings.metas.now);
}

pub patch_entry-requires-clause-there : goal.patch_entry-requires-clause-there
patch_entry-requires-clause-there c = slice_get-get_or c.args.laid.now.listings.metas.now c.loop-place.place _ c.loop-place-test.true

pub entry_len-entry-requires : goal.entry_len-entry-requires
entry_len-entry-requires c = slice_get-get_or c.args.laid.now.listings.metas.now c.loop-place.place _ c.loop-place-test.true

pub overflow_add-entry : goal.overflow_add-entry
overflow_add-entry c =
    let there = slice_get-get_or c.args.laid.now.listings.metas.now c.loop-place.place (record { index = 0; signer = false; writable = false }) c.loop-place-test.true in
    let whole : entry_start (accounts_of c.args.laid.now.start.now) c.args.laid.now.listings.metas.now
    (length c.args.laid.now.listings.metas.now) ≤ length c.args.laid.now.region.now.bytes =
    c.args.laid.now.whole in
    omega (arith, start_within (accounts_of c.args.laid.now.start.now) c.args.laid.now.listings.metas.now c.loop-place.place _ there, c.entry_len-entry.ensures, c.loop-place.invariant.entry)

pub loop-place-preserved : goal.loop-place-preserved
loop-place-preserved c =
    let there = slice_get-get_or c.args.laid.now.listings.metas.now c.loop-place.place (record { index = 0; signer = false; writable = false }) c.loop-place-test.true in
    let one = patched_entry c.args.laid.now.region.now.bytes (accounts_of c.args.laid.now.start.now) (accounts_of c.args.now.now) c.args.laid.now.listings.metas.now in
    let lends = lent_entry (accounts_of c.args.laid.now.start.now) (accounts_of c.args.now.now) c.args.laid.now.listings.metas.now in
    let more = start_more (accounts_of c.args.laid.now.start.now) c.args.laid.now.listings.metas.now c.loop-place.place _ there in
    record {
      bytes = then_more c.args.draft.now.bytes c.loop-place.draft.bytes c.patch_entry.new.draft.bytes
          (flat_map one (take c.loop-place.place (enumerate_from 0 c.args.laid.now.listings.metas.now))) _
          c.loop-place.invariant.bytes c.in_ok-patch_entry.ensures.bytes
          ∙ ap (λ (l : List ℕ). c.args.draft.now.bytes ++ l) (sym (flat_more one c.args.laid.now.listings.metas.now c.loop-place.place _ there));
      lent = then_more c.args.draft.now.lent c.loop-place.draft.lent c.patch_entry.new.draft.lent
          (flat_map lends (take c.loop-place.place (enumerate_from 0 c.args.laid.now.listings.metas.now))) _
          c.loop-place.invariant.lent c.in_ok-patch_entry.ensures.lent
          ∙ ap (λ (l : List (ℕ × Account)). c.args.draft.now.lent ++ l) (sym (flat_more lends c.args.laid.now.listings.metas.now c.loop-place.place _ there));
      size = omega (arith, more, c.in_ok-patch_entry.ensures.size, c.loop-place.invariant.size);
      entry = omega (arith, more, c.entry_len-entry.ensures, c.loop-place.invariant.entry);
    }

pub returns-clause-bytes : goal.returns-clause-bytes
returns-clause-bytes c =
    c.loop-place.invariant.bytes
    ∙ ap (λ (l : List ℕ). c.args.draft.now.bytes ++ l)
    (flat_all (patched_entry c.args.laid.now.region.now.bytes (accounts_of c.args.laid.now.start.now)
    (accounts_of c.args.now.now) c.args.laid.now.listings.metas.now) c.args.laid.now.listings.metas.now
    c.loop-place.place c.loop-place-test.false)

pub patch_entry-requires-clause-start : goal.patch_entry-requires-clause-start
patch_entry-requires-clause-start c = c.loop-place.invariant.size ∙ sym c.loop-place.invariant.entry

pub returns-clause-lent : goal.returns-clause-lent
returns-clause-lent c =
    c.loop-place.invariant.lent ∙ ap (λ (l : List (ℕ × Account)). c.args.draft.now.lent ++ l)
    (lent_whole (accounts_of c.args.laid.now.start.now) (accounts_of c.args.now.now)
    c.args.laid.now.listings.metas.now c.loop-place.place c.loop-place-test.false)

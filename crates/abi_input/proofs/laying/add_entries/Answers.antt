use Rattle.std.proofs.Common.{◌++◌, ℕ, List, take, sym, ap, ◌∙◌, arith, false}
use Rattle.std.specs.List.{enumerate_from, flat_map}
use Rattle.std.proofs.lemmas.List.{append-nil}
use Rattle.std.proofs.lemmas.Option.{slice_get-get_or}
use Rattle.sol_base.specs.declared.account.Account.{Account}
use Rattle.sol_base.specs.Accounts.{accounts_of}
use Rattle.abi_input.specs.Region.{entry_of, lent_entry}
use Rattle.abi_input.proofs.Drafts.{then_more}
use Rattle.abi_input.proofs.Entries.{flat_all, flat_more, start_more, start_zero}
use Rattle.abi_input.proofs.Lent.{lent_whole}
use Rattle.abi_input.proofs.laying.add_entries.Goals as goal

pub loop-place-init : goal.loop-place-init
loop-place-init c = record {
  bytes = sym (append-nil c.args.draft.now.bytes);
  lent = sym (append-nil c.args.draft.now.lent);
  size = c.requires.start ∙ sym (start_zero (accounts_of c.args.accounts.now) c.args.listings.now.metas.now);
}

pub add_entry-requires-clause-there : goal.add_entry-requires-clause-there
add_entry-requires-clause-there c = slice_get-get_or c.args.listings.now.metas.now c.loop-place.place _ c.loop-place-test.true

pub loop-place-preserved : goal.loop-place-preserved
loop-place-preserved c =
    let accounts = accounts_of c.args.accounts.now in
    let there = slice_get-get_or c.args.listings.now.metas.now c.loop-place.place (record { index = 0; signer = false; writable = false }) c.loop-place-test.true in
    let one = entry_of c.args.keys.now accounts c.args.listings.now.metas.now in
    let lends = lent_entry accounts accounts c.args.listings.now.metas.now in
    let more = start_more accounts c.args.listings.now.metas.now c.loop-place.place _ there in
    record {
      bytes = then_more c.args.draft.now.bytes c.loop-place.draft.bytes c.add_entry.new.draft.bytes
          (flat_map one (take c.loop-place.place (enumerate_from 0 c.args.listings.now.metas.now))) _
          c.loop-place.invariant.bytes c.in_ok-add_entry.ensures.bytes
          ∙ ap (λ (l : List ℕ). c.args.draft.now.bytes ++ l) (sym (flat_more one c.args.listings.now.metas.now c.loop-place.place _ there));
      lent = then_more c.args.draft.now.lent c.loop-place.draft.lent c.add_entry.new.draft.lent
          (flat_map lends (take c.loop-place.place (enumerate_from 0 c.args.listings.now.metas.now))) _
          c.loop-place.invariant.lent c.in_ok-add_entry.ensures.lent
          ∙ ap (λ (l : List (ℕ × Account)). c.args.draft.now.lent ++ l) (sym (flat_more lends c.args.listings.now.metas.now c.loop-place.place _ there));
      size = omega (arith, more, c.in_ok-add_entry.ensures.size, c.loop-place.invariant.size);
    }

pub returns-clause-bytes : goal.returns-clause-bytes
returns-clause-bytes c =
    c.loop-place.invariant.bytes
    ∙ ap (λ (l : List ℕ). c.args.draft.now.bytes ++ l)
    (flat_all (entry_of c.args.keys.now (accounts_of c.args.accounts.now) c.args.listings.now.metas.now)
    c.args.listings.now.metas.now c.loop-place.place c.loop-place-test.false)

pub returns-clause-lent : goal.returns-clause-lent
returns-clause-lent c =
    c.loop-place.invariant.lent ∙ ap (λ (l : List (ℕ × Account)). c.args.draft.now.lent ++ l)
    (lent_whole (accounts_of c.args.accounts.now) (accounts_of c.args.accounts.now)
    c.args.listings.now.metas.now c.loop-place.place c.loop-place-test.false)

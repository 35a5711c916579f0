use Rattle.std.proofs.Common.{◌≡◌, ◌≤◌, ◌++◌, ◌+◌, ℕ, List, true, false, length, sym, ap, ◌∙◌, arith}
use Rattle.std.specs.Arc.{arc_value}
use Rattle.std.proofs.lemmas.List.{append-nil}
use Rattle.std.proofs.lemmas.Result.{on_ok_weaker}
use Rattle.sol_base.specs.declared.account.Account.{Account}
use Rattle.sol_base.specs.Accounts.{accounts_of}
use Rattle.sol_base.specs.Metas.{is_first_listing, AreInRange}
use Rattle.abi_input.specs.Region.{entry_start, is_outgrown}
use Rattle.abi_input.proofs.Entries.{first_fits, index_in, not_outgrown, patched_first, size_again, size_first, start_within}
use Rattle.abi_input.proofs.Finding.{none_passes}
use Rattle.abi_input.proofs.Lent.{lent_again, lent_first}
use Rattle.abi_input.proofs.patching.patch_entry.Goals as goal

pub account_of-start-requires : goal.account_of-start-requires
account_of-start-requires c = index_in (length (accounts_of c.args.laid.now.start.now)) c.args.laid.now.listings.metas.now c.args.place c.args.meta.now c.args.laid.now.range c.requires.there

pub account_of-requires : goal.account_of-requires
account_of-requires c =
    let range : AreInRange (length (accounts_of c.args.now.now)) c.args.laid.now.listings.metas.now = rw c.requires.count c.args.laid.now.range in
    index_in (length (accounts_of c.args.now.now)) c.args.laid.now.listings.metas.now c.args.place c.args.meta.now range c.requires.there

pub patch_first-requires-clause-within : goal.patch_first-requires-clause-within
patch_first-requires-clause-within c =
    let first : is_first_listing c.args.laid.now.listings.metas.now (c.args.place, c.args.meta.now) ≡ true = sym c.is_first.ensures ∙ c.if-is_first.true in
    let whole : entry_start (accounts_of c.args.laid.now.start.now) c.args.laid.now.listings.metas.now
    (length c.args.laid.now.listings.metas.now) ≤ length c.args.laid.now.region.now.bytes =
    c.args.laid.now.whole in
    omega (
      arith,
      first_fits (accounts_of c.args.laid.now.start.now) c.args.laid.now.listings.metas.now
          c.args.place c.args.meta.now c.deref.result.now c.requires.there first
          (sym (c.deref.ensures ∙ c.account_of-start.ensures)),
      c.requires.entry,
    )

pub patch_first-requires-clause-room : goal.patch_first-requires-clause-room
patch_first-requires-clause-room c =
    let first : is_first_listing c.args.laid.now.listings.metas.now (c.args.place, c.args.meta.now) ≡ true = sym c.is_first.ensures ∙ c.if-is_first.true in
    not_outgrown (accounts_of c.args.laid.now.start.now) (accounts_of c.args.now.now)
    c.args.laid.now.listings.metas.now c.args.place c.args.meta.now c.deref.result.now
    (arc_value c.account_of.result.now)
    (none_passes (is_outgrown (accounts_of c.args.laid.now.start.now) (accounts_of c.args.now.now))
    c.args.laid.now.listings.metas.now c.args.place c.args.meta.now c.requires.there c.requires.rooms first)
    (sym (c.deref.ensures ∙ c.account_of-start.ensures)) (sym c.account_of.ensures)

pub copy-requires-clause-within : goal.copy-requires-clause-within
copy-requires-clause-within c =
    let again : is_first_listing c.args.laid.now.listings.metas.now (c.args.place, c.args.meta.now) ≡ false = sym c.is_first.ensures ∙ c.if-is_first.false in
    let whole : entry_start (accounts_of c.args.laid.now.start.now) c.args.laid.now.listings.metas.now
    (length c.args.laid.now.listings.metas.now) ≤ length c.args.laid.now.region.now.bytes =
    c.args.laid.now.whole in
    omega (
      arith,
      start_within (accounts_of c.args.laid.now.start.now) c.args.laid.now.listings.metas.now
          c.args.place c.args.meta.now c.requires.there,
      size_again (accounts_of c.args.laid.now.start.now)
          c.args.laid.now.listings.metas.now c.args.place c.args.meta.now again,
      c.requires.entry,
    )

pub returns-then-is_first-clause-bytes : goal.returns-then-is_first-clause-bytes
returns-then-is_first-clause-bytes c =
    let first : is_first_listing c.args.laid.now.listings.metas.now (c.args.place, c.args.meta.now) ≡ true = sym c.is_first.ensures ∙ c.if-is_first.true in
    on_ok_weaker c.patch_first.result
    (λ e. e ∙ ap (λ (l : List ℕ). c.args.draft.now.bytes ++ l)
    (patched_first c.args.laid.now.region.now.bytes (accounts_of c.args.laid.now.start.now)
    (accounts_of c.args.now.now) c.args.laid.now.listings.metas.now c.args.place c.args.meta.now
    c.deref.result.now (arc_value c.account_of.result.now) c.args.entry first
    (sym (c.deref.ensures ∙ c.account_of-start.ensures)) (sym c.account_of.ensures) c.requires.entry))
    c.patch_first.ensures.bytes

pub returns-then-is_first-clause-size : goal.returns-then-is_first-clause-size
returns-then-is_first-clause-size c =
    let first : is_first_listing c.args.laid.now.listings.metas.now (c.args.place, c.args.meta.now) ≡ true = sym c.is_first.ensures ∙ c.if-is_first.true in
    on_ok_weaker c.patch_first.result
    (λ e. e ∙ ap (λ n. length c.args.draft.now.bytes + n)
    (sym (size_first (accounts_of c.args.laid.now.start.now) c.args.laid.now.listings.metas.now c.args.place
    c.args.meta.now c.deref.result.now first (sym (c.deref.ensures ∙ c.account_of-start.ensures)))))
    c.patch_first.ensures.size

pub returns-then-is_first-clause-lent : goal.returns-then-is_first-clause-lent
returns-then-is_first-clause-lent c =
    let first : is_first_listing c.args.laid.now.listings.metas.now (c.args.place, c.args.meta.now) ≡ true = sym c.is_first.ensures ∙ c.if-is_first.true in
    on_ok_weaker c.patch_first.result
    (λ e. e ∙ ap (λ (l : List (ℕ × Account)). c.args.draft.now.lent ++ l)
    (lent_first (accounts_of c.args.laid.now.start.now) (accounts_of c.args.now.now)
    c.args.laid.now.listings.metas.now c.args.place c.args.meta.now (length c.args.draft.now.bytes)
    (arc_value c.account_of.result.now) first (c.requires.start ∙ c.requires.entry)
    (sym c.account_of.ensures)))
    c.patch_first.ensures.lent

pub returns-else-is_first-clause-lent : goal.returns-else-is_first-clause-lent
returns-else-is_first-clause-lent c =
    let again : is_first_listing c.args.laid.now.listings.metas.now (c.args.place, c.args.meta.now) ≡ false = sym c.is_first.ensures ∙ c.if-is_first.false in
    let same = c.copy.ensures.lent ∙ sym (append-nil c.args.draft.now.lent)
    ∙ ap (λ (l : List (ℕ × Account)). c.args.draft.now.lent ++ l)
    (sym (lent_again (accounts_of c.args.laid.now.start.now) (accounts_of c.args.now.now)
    c.args.laid.now.listings.metas.now c.args.place c.args.meta.now again)) in
    on_ok_weaker c.copy.result (λ _. same) c.copy.ensures.size

use Rattle.std.proofs.Common.{◌≡◌, ◌++◌, ◌∙◌, List, length, map, sym, ap, subst, arith, Err}
use Rattle.std.specs.List.{filter_map, enumerate_from}
use Rattle.std.proofs.lemmas.Result.{err_from_is_err_and}
use Rattle.spec_base.specs.Reading.{first_or}
use Rattle.message_codec.specs.declared.message.Lookup.{Lookup}
use Rattle.message_codec.proofs.SaneLaws.{are_distinct}
use Rattle.account_store.specs.State.{at}
use Rattle.admission.specs.Lookups.{address_at, if_apart, load, loaded_in, lookup_fault}
use Rattle.admission.proofs.LookupLaws.{AreLoaded, has_all, load_refused, loaded_more, loads_again, loads_apart, or_memory, refused}
use Rattle.admission.proofs.lookups.resolve.Goals as goal

pub returns-in_err-table-clause-exact : goal.returns-in_err-table-clause-exact
returns-in_err-table-clause-exact c =
    let p = err_from_is_err_and c.from_residual.result c.from_residual.ensures.1 in
    let s = c.args.accounts.now in
    let message = c.args.message.now in
    let fault = c.in_err-table.field-0.0 in
    let first = refused s c.as_slice-lookup-items.result.now c.loop-place.place c.loop-place.writable
    c.loop-place.readonly c.loop-place.invariant c.lookup-item.result c.loop-place-test.true
    c.lookup-item.is
    fault (if_apart message (loaded_in s message.lookups)) c.in_err-table.ensures.fault in
    rw (p.1, p.2) (or_memory fault (load s message) (load_refused s message fault
    (subst (λ (ls : List Lookup). first_or (filter_map (lookup_fault s) (enumerate_from 0 ls)) (if_apart message (loaded_in s message.lookups)) ≡ Err fault) c.as_slice-lookup-items.ensures first)))

pub loop-place-preserved : goal.loop-place-preserved
loop-place-preserved c =
    let lookup = c.lookup-item.result in
    loaded_more c.args.accounts.now c.as_slice-lookup-items.result.now c.loop-place.place c.loop-place.writable
    c.loop-place.readonly c.loop-place.invariant lookup c.loop-place-test.true c.lookup-item.is
    c.push_picked.new.keys c.push_picked-in-loop-place.new.keys c.in_ok-table.ensures.fault
    (c.in_ok-push_picked.ensures
    ∙ ap (λ bytes. c.loop-place.writable ++ map (address_at bytes) c.as_slice.result.now) c.in_ok-table.ensures.bytes
    ∙ ap (λ indexes. c.loop-place.writable ++ map (address_at (at c.args.accounts.now c.lookup-item.result.table).bytes) indexes) c.as_slice.ensures)
    (c.in_ok-push_picked-2.ensures
    ∙ ap (λ bytes. c.loop-place.readonly ++ map (address_at bytes) c.as_slice-in-loop-place.result.now) c.in_ok-table.ensures.bytes
    ∙ ap (λ indexes. c.loop-place.readonly ++ map (address_at (at c.args.accounts.now c.lookup-item.result.table).bytes) indexes) c.as_slice-in-loop-place.ensures)

pub returns-then-branch-clause-exact : goal.returns-then-branch-clause-exact
returns-then-branch-clause-exact c =
    let same = ap length c.as_slice-lookup-items.ensures in
    loads_again c.args.accounts.now c.args.message.now c.loop-place.place c.loop-place.writable c.loop-place.readonly
    (subst (λ (ls : List Lookup). AreLoaded c.args.accounts.now ls c.loop-place.place c.loop-place.writable c.loop-place.readonly) c.as_slice-lookup-items.ensures c.loop-place.invariant)
    (omega arith) (sym c.in_ok-repeats_a_key.ensures ∙ c.if-branch.true)

pub returns-clause-exact : goal.returns-clause-exact
returns-clause-exact c =
    let same = ap length c.as_slice-lookup-items.ensures in
    loads_apart c.args.accounts.now c.args.message.now c.loop-place.place c.loop-place.writable c.loop-place.readonly
    (subst (λ (ls : List Lookup). AreLoaded c.args.accounts.now ls c.loop-place.place c.loop-place.writable c.loop-place.readonly) c.as_slice-lookup-items.ensures c.loop-place.invariant)
    (omega arith) (sym c.in_ok-repeats_a_key.ensures ∙ c.if-branch.false)

pub returns-clause-all : goal.returns-clause-all
returns-clause-all c =
    let same = ap length c.as_slice-lookup-items.ensures in
    has_all c.args.accounts.now c.args.message.now c.loop-place.place c.loop-place.writable c.loop-place.readonly
    (subst (λ (ls : List Lookup). AreLoaded c.args.accounts.now ls c.loop-place.place c.loop-place.writable c.loop-place.readonly) c.as_slice-lookup-items.ensures c.loop-place.invariant)
    (omega arith)

pub returns-clause-apart : goal.returns-clause-apart
returns-clause-apart c = are_distinct _ (sym c.in_ok-repeats_a_key.ensures ∙ c.if-branch.false)

use Rattle.std.proofs.Common.{◌≡◌, ◌++◌, ◌∷◌, [], List, sym, ap, ◌∙◌, append_assoc}
use Rattle.std.proofs.lemmas.List.{append-nil, map-append}
use Rattle.std.proofs.lemmas.List.{nil_from_length}
use Rattle.sol_base.specs.Accounts.{IsShort}
use Rattle.std.specs.Vec.Iter.{into_iter_items}
use Rattle.account_store.specs.declared.sorted.KeyedAccount.{KeyedAccount}
use Rattle.account_store.specs.State.{entries}
use Rattle.account_store.specs.Sorted.{entry_of, entries_of}
use Rattle.std.proofs.lemmas.Result.{err_from_is_err_and}
use Rattle.account_store.proofs.StateLaws.{entries-empty}
use Rattle.account_store.proofs.SortedLaws.{Entry, fault_after, few-before, refused-at, fault_after-next, next-of-all, first_fault-is, state_of-none}
use Rattle.account_store.proofs.accounts.Accounts.from_sorted.Goals as goal

pub loop-entry-init : goal.loop-entry-init
loop-entry-init c =
    let all : into_iter_items c.into_iter-entry-iterator.result ≡ c.args.entries = c.into_iter-entry-iterator.ensures.into_iter_gives.0 ∙ c.into_vec-entry-items.ensures in
    record {
      entries = ap entries c.in_ok-ascending.ensures ∙ entries-empty;
      all = all;
      fault = ap (λ (l : List KeyedAccount). fault_after [] (entries_of l)) (sym all);
    }

pub push-requires-clause-few : goal.push-requires-clause-few
push-requires-clause-few c = few-before c.loop-entry.ascending c.loop-entry.yielded
    (into_iter_items c.loop-entry.entry-iterator) c.args.entries c.loop-entry.invariant.entries
    c.loop-entry.invariant.all c.requires.few

pub push-requires-clause-short : goal.push-requires-clause-short
push-requires-clause-short c =
    let split : c.loop-entry.yielded ++ c.in-Some.entry ∷ into_iter_items c.next.new.self
    ≡ c.args.entries = ap (λ (l : List KeyedAccount). c.loop-entry.yielded ++ l)
    (sym c.in-Some.ensures.steps.0) ∙ c.loop-entry.invariant.all in
    next-of-all (λ (e : KeyedAccount). IsShort e.account) c.loop-entry.yielded (into_iter_items c.next.new.self) c.args.entries c.in-Some.entry c.requires.short split

pub loop-entry-preserved : goal.loop-entry-preserved
loop-entry-preserved c =
    let e = c.in-Some.entry in
    let so_far = c.loop-entry.yielded in
    let left = into_iter_items c.next.new.self in
    let has = c.loop-entry.invariant.entries in
    let split : so_far ++ e ∷ left ≡ c.args.entries = ap (λ (l : List KeyedAccount). so_far ++ l) (sym c.in-Some.ensures.steps.0) ∙ c.loop-entry.invariant.all in
    let fault : fault_after [] (entries_of c.args.entries)
    ≡ fault_after (entries_of so_far) (entries_of (e ∷ left)) = c.loop-entry.invariant.fault
    ∙ ap (λ (l : List KeyedAccount). fault_after (entries_of so_far) (entries_of l))
    c.in-Some.ensures.steps.0 in
    record {
      entries = c.in_ok-push.ensures.pushed ∙ ap (λ (l : List Entry). l ++ entry_of e ∷ []) has ∙ sym (map-append entry_of so_far (e ∷ []));
      all = append_assoc so_far (e ∷ []) left ∙ split;
      fault = fault_after-next c.args.entries so_far left e c.loop-entry.ascending has fault c.in_ok-push.ensures.fine;
    }

pub returns-in_err-push : goal.returns-in_err-push
returns-in_err-push c =
    let p = err_from_is_err_and c.from_residual-in_err-push.result c.from_residual-in_err-push.ensures.1 in
    let e = c.in-Some.entry in
    let so_far = c.loop-entry.yielded in
    let left = into_iter_items c.next.new.self in
    let fault : fault_after [] (entries_of c.args.entries)
    ≡ fault_after (entries_of so_far) (entries_of (e ∷ left)) = c.loop-entry.invariant.fault
    ∙ ap (λ (l : List KeyedAccount). fault_after (entries_of so_far) (entries_of l))
    c.in-Some.ensures.steps.0 in
    rw (p.1, p.2) (refused-at c.args.entries so_far left e c.loop-entry.ascending c.in_err-push.field-0.0 c.loop-entry.invariant.entries fault c.in_err-push.ensures.err)

pub returns : goal.returns
returns c =
    let none : into_iter_items c.loop-entry.entry-iterator ≡ [] = nil_from_length _ (sym c.loop-entry.entry-iterator.rest.ok.0 ∙ c.in-None.ensures.steps.0) in
    let so_far = c.loop-entry.yielded in
    let all : so_far ≡ c.args.entries = sym (append-nil so_far) ∙ ap (λ (l : List KeyedAccount). so_far ++ l) (sym none) ∙ c.loop-entry.invariant.all in
    let fault = first_fault-is (entries_of c.args.entries) ∙ c.loop-entry.invariant.fault ∙ ap (λ (l : List KeyedAccount). fault_after (entries_of so_far) (entries_of l)) none in
    state_of-none c.args.entries c.in_ok-into_accounts.field-0 fault (ap entries c.in_ok-into_accounts.ensures ∙ c.loop-entry.invariant.entries ∙ ap entries_of all)

use Rattle.std.proofs.Common.{◌≡◌, ◌+◌, ◌^◌, ◌≤◌, ◌-◌, ◌∙◌, All, None, ap, sym, subst}
use Rattle.std.specs.List.{IsDistinct, zip}
use Rattle.std.specs.Map.{keys_of}
use Rattle.std.proofs.lemmas.Result.{IfOk-weaker}
use Rattle.account_store.specs.State.{State, get, at, sum, lamports_of, with_entries, IsHeld, IsState}
use Rattle.account_store.specs.Shared.{seen}
use Rattle.bank_law.specs.Job.{same_key}
use Rattle.bank_core.specs.Slots.{value_of, held_in}
use Rattle.bank_core.proofs.Ends.{both_ok, back_distinct, back_absent, back_held, back_fits, joined_accounts, joined_state}
use Rattle.bank_core.proofs.ended.Ended.joined.Goals as goal

pub put_in-requires-clause-distinct : goal.put_in-requires-clause-distinct
put_in-requires-clause-distinct g c =
    let self = c.args.self in
    let held_is = c.in_ok-held.ensures in
    subst (λ es. IsDistinct same_key (keys_of es)) (sym held_is)
    (back_distinct (g.W.Work.job self.origin.value.told) self.origin.value.start self.rest self.table self.slots.items self.ends)

pub put_in-requires-clause-absent : goal.put_in-requires-clause-absent
put_in-requires-clause-absent g c =
    let self = c.args.self in
    let held_is = c.in_ok-held.ensures in
    subst (λ es. All (λ e. get self.rest e.0 ≡ None) es) (sym held_is)
    (back_absent (g.W.Work.job self.origin.value.told) self.origin.value.start self.rest self.table self.slots.items self.ends)

pub put_in-requires-clause-held : goal.put_in-requires-clause-held
put_in-requires-clause-held g c =
    let self = c.args.self in
    let held_is = c.in_ok-held.ensures in
    subst (λ es. All (λ e. IsHeld (value_of e.1)) es) (sym held_is)
    (back_held (g.W.Work.job self.origin.value.told) self.origin.value.start self.rest self.table self.slots.items self.ends)

pub put_in-requires-clause-fits : goal.put_in-requires-clause-fits
put_in-requires-clause-fits g c =
    let self = c.args.self in
    let held_is = c.in_ok-held.ensures in
    subst (λ es. sum self.rest + lamports_of (seen es) ≤ 2 ^ 64 - 1) (sym held_is)
    (back_fits (g.W.Work.job self.origin.value.told) self.origin.value.start self.rest self.table self.slots.items self.ends)

pub returns-clause-accounts : goal.returns-clause-accounts
returns-clause-accounts g c =
    let self = c.args.self in
    let job = g.W.Work.job self.origin.value.told in
    let held_is = c.in_ok-held.ensures in
    IfOk-weaker c.put_in.result _ _ (λ (now : State) is. λ key.
    ap (λ (s : State). at s key) (is ∙ ap (λ es. with_entries self.rest (seen es)) held_is)
    ∙ joined_accounts job self.origin.value.start self.rest self.table self.slots.items self.ends key) c.put_in.ensures.accounts

pub returns-clause-state : goal.returns-clause-state
returns-clause-state g c =
    let self = c.args.self in
    let job = g.W.Work.job self.origin.value.told in
    let held_is = c.in_ok-held.ensures in
    both_ok c.put_in.result _ _ _ (λ (now : State) is fine.
    let all : now ≡ with_entries self.rest (seen (held_in (zip self.table self.slots.items))) = is ∙ ap (λ es. with_entries self.rest (seen es)) held_is in
    all ∙ joined_state job self.origin.value.start self.rest self.table self.slots.items self.ends (subst IsState all fine)) c.put_in.ensures.accounts c.put_in.ensures.state

use Rattle.std.proofs.Common.{◌+◌, ◌-◌, ◌^◌, ◌≤◌, ap, sym, subst, ◌∙◌}
use Rattle.std.specs.Arc.{arc_value}
use Rattle.std.specs.Map.{lookup}
use Rattle.std.specs.BTreeMap.{is_at}
use Rattle.std.specs.FinMap as map
use Rattle.sol_base.specs.Keys.{key_cmp}
use Rattle.sol_base.specs.declared.account.Account.{Account}
use Rattle.account_store.specs.State.{State}
use Rattle.account_store.specs.Shared.{state_seen, shared_lamports}
use Rattle.account_store.proofs.StateLaws.{put-more}
use Rattle.account_store.proofs.SharedLaws.{state_seen-insert_entry, shared_lamports-le, IsKept-insert, sum-put_in, total-put_in, has_lamports}
use Rattle.account_store.proofs.accounts.Accounts.put.Goals as goal

pub total_after-self-inside-requires-clause-held : goal.total_after-self-inside-requires-clause-held
total_after-self-inside-requires-clause-held c =
    let here = shared_lamports-le c.self.inside.tree.entries c.self.inside.total c.args.key c.self.invariant in
    subst (λ n. n ≤ c.self.inside.total) (sym (ap shared_lamports c.in_ok-before.ensures.old)) here

pub total_after-self-inside-requires-clause-fits : goal.total_after-self-inside-requires-clause-fits
total_after-self-inside-requires-clause-fits c =
    let account : Account = arc_value c.args.account in
    let es = c.self.inside.tree.entries in
    let total = c.self.inside.total in
    let more = has_lamports _ _ c.deref.ensures c.if-lamports-eq0.false in
    let fits = total-put_in es total c.args.key account c.self.invariant (sum-put_in es c.args.self.now c.args.key account c.self.view_is more c.requires.fits) in
    let same = ap (λ n. total - n + c.deref.result.now.lamports) (ap shared_lamports c.in_ok-before.ensures.old)
    ∙ ap (λ (a : Account). total - shared_lamports (lookup (is_at (key_cmp c.args.key)) es) + a.lamports) c.deref.ensures in
    subst (λ n. n ≤ 2 ^ 64 - 1) (sym same) fits

pub invariant_of-self-2 : goal.invariant_of-self-2
invariant_of-self-2 c =
    let account : Account = arc_value c.args.account in
    let es = c.self.inside.tree.entries in
    let total = c.self.inside.total in
    let more = has_lamports _ _ c.deref.ensures c.if-lamports-eq0.false in
    let fits = sum-put_in es c.args.self.now c.args.key account c.self.view_is more c.requires.fits in
    let same = c.total_after-self-inside.ensures ∙ ap (λ n. total - n + c.deref.result.now.lamports) (ap shared_lamports c.in_ok-before.ensures.old)
    ∙ ap (λ (a : Account). total - shared_lamports (lookup (is_at (key_cmp c.args.key)) es) + a.lamports) c.deref.ensures in
    IsKept-insert es c.insert.new.self.entries total _ c.args.key c.args.account c.self.invariant c.in_ok-before.ensures.entries c.in_ok-before.ensures.ordered (more, c.requires.short) fits same

pub returns-clause-state : goal.returns-clause-state
returns-clause-state c =
    let account : Account = arc_value c.args.account in
    let es = c.self.inside.tree.entries in
    let total = c.self.inside.total in
    let more = has_lamports _ _ c.deref.ensures c.if-lamports-eq0.false in
    let fits = sum-put_in es c.args.self.now c.args.key account c.self.view_is more c.requires.fits in
    let same = c.total_after-self-inside.ensures ∙ ap (λ n. total - n + c.deref.result.now.lamports) (ap shared_lamports c.in_ok-before.ensures.old)
    ∙ ap (λ (a : Account). total - shared_lamports (lookup (is_at (key_cmp c.args.key)) es) + a.lamports) c.deref.ensures in
    (IsKept-insert es c.insert.new.self.entries total _ c.args.key c.args.account c.self.invariant
    c.in_ok-before.ensures.entries c.in_ok-before.ensures.ordered (more, c.requires.short) fits
    same).is_state

pub returns-clause-ok : goal.returns-clause-ok
returns-clause-ok c =
    let account : Account = arc_value c.args.account in
    let more = has_lamports _ _ c.deref.ensures c.if-lamports-eq0.false in
    ap state_seen c.in_ok-before.ensures.entries
    ∙ state_seen-insert_entry c.self.inside.tree.entries c.args.key c.args.account
    ∙ ap (λ (s : State). map.insert s c.args.key account) c.self.view_is
    ∙ sym (put-more c.args.self.now c.args.key account more)

use Rattle.std.proofs.Common.{◌-◌, ◌++◌, map, length, sym, ap, ◌∙◌, arith}
use Rattle.std.specs.Option.{option_to_list}
use Rattle.account_store.proofs.Walks.{one_more, walk_first, walk_at, none_left, walk_absent, walk_found, walk_other, walk_shorter, taken_first, nothing_left, walked_all}
use Rattle.account_store.specs.State.{get, without}
use Rattle.account_store.proofs.accounts.Accounts.walk_out.Goals as goal

pub loop-next-init : goal.loop-next-init
loop-next-init c = record {
  walked =
      walk_first c.args.keys.now _ c.self.inside.tree.entries _ _ _
      (sym (taken_first c.into_iter-entries.result c.next-next.new.self c.next-next.result c.next-next.ensures.steps) ∙ c.into_iter-entries.ensures.into_iter_gives.0)
      c.in_ok-accounts.ensures.items c.new-rest.ensures.items c.self.invariant;
  ended = nothing_left c.into_iter-entries.result c.next-next.new.self c.next-next.result c.next-next.ensures.steps;
}

pub loop-next-smaller-in_ok-push-in-Less : goal.loop-next-smaller-in_ok-push-in-Less
loop-next-smaller-in_ok-push-in-Less c =
    let shorter = walk_shorter c.args.keys.now c.requires _ c.in-Some.key c.in-Some.account c.loop-next.entries
    c.loop-next.accounts.items c.loop-next.rest.items c.loop-next.total
    (walk_at c.args.keys.now _ c.loop-next.next (c.in-Some.key, c.in-Some.account) c.loop-next.entries
    c.loop-next.accounts.items c.loop-next.rest.items c.loop-next.total c.in-Some.is
    c.loop-next.invariant.walked) c.len.result (omega arith) c.order_at.result c.order_at.ensures
    c.in-Less.is in
    let more = ap length c.in_ok-push-in-Less.ensures.items ∙ one_more c.loop-next.accounts.items _ in
    let same = ap (λ o. length (option_to_list o ++ c.loop-next.entries)) c.in-Some.is in
    let l = c.len.ensures in
    omega (arith, shorter, more, same, l)

pub loop-next-preserved-in_ok-push-in-Less : goal.loop-next-preserved-in_ok-push-in-Less
loop-next-preserved-in_ok-push-in-Less c = record {
  walked = walk_absent c.args.keys.now c.requires _ c.in-Some.key c.in-Some.account c.loop-next.entries
      c.loop-next.accounts.items c.loop-next.rest.items c.loop-next.total
      (walk_at c.args.keys.now _ c.loop-next.next (c.in-Some.key, c.in-Some.account) c.loop-next.entries
      c.loop-next.accounts.items c.loop-next.rest.items c.loop-next.total c.in-Some.is
      c.loop-next.invariant.walked) c.len.result (omega arith) c.order_at.result c.order_at.ensures _
      c.in-Less.is c.in_ok-push-in-Less.ensures.items;
  ended = λ e. absurd (cc);
}

pub loop-next-preserved-in_ok-push-in-Equal : goal.loop-next-preserved-in_ok-push-in-Equal
loop-next-preserved-in_ok-push-in-Equal c = record {
  walked =
      walk_found c.args.keys.now c.requires _ c.in-Some.key c.in-Some.account c.loop-next.entries
      c.loop-next.accounts.items c.loop-next.rest.items c.loop-next.total
      (walk_at c.args.keys.now _ c.loop-next.next (c.in-Some.key, c.in-Some.account) c.loop-next.entries
      c.loop-next.accounts.items c.loop-next.rest.items c.loop-next.total c.in-Some.is
      c.loop-next.invariant.walked) c.len.result (omega arith) c.order_at.result c.order_at.ensures
      _ _ _ c.in-Equal.is (ap (λ a. c.loop-next.total - a.lamports) c.deref.ensures)
      c.in_ok-push-in-Equal.ensures.items
      (taken_first c.loop-next.entries c.next.new.self c.next.result c.next.ensures.steps);
  ended = nothing_left c.loop-next.entries c.next.new.self c.next.result c.next.ensures.steps;
}

pub loop-next-preserved : goal.loop-next-preserved
loop-next-preserved c = record {
  walked =
      walk_other c.args.keys.now c.requires _ c.in-Some.key c.in-Some.account c.loop-next.entries
      c.loop-next.accounts.items c.loop-next.rest.items c.loop-next.total
      (walk_at c.args.keys.now _ c.loop-next.next (c.in-Some.key, c.in-Some.account) c.loop-next.entries
      c.loop-next.accounts.items c.loop-next.rest.items c.loop-next.total c.in-Some.is
      c.loop-next.invariant.walked) c.len.result (omega arith) c.order_at.result c.order_at.ensures
      _ _ c.in-Greater.is c.in_ok-push-in-Greater.ensures.items (taken_first c.loop-next.entries c.next-in-Greater.new.self c.next-in-Greater.result c.next-in-Greater.ensures.steps);
  ended = nothing_left c.loop-next.entries c.next-in-Greater.new.self c.next-in-Greater.result c.next-in-Greater.ensures.steps;
}

pub invariant_of-rest : goal.invariant_of-rest
invariant_of-rest c =
    let walked =
    walked_all c.args.keys.now _ c.self.inside.tree.entries
    (option_to_list c.loop-next.next ++ c.loop-next.entries) c.loop-next.accounts.items
    c.fill.new.accounts.items c.loop-next.rest.items c.in_ok-tree.tree c.self.inside.total c.loop-next.total
    (sym (taken_first c.into_iter-entries.result c.next-next.new.self c.next-next.result c.next-next.ensures.steps) ∙ c.into_iter-entries.ensures.into_iter_gives.0)
    (none_left c.loop-next.next c.loop-next.entries c.in_default.is c.loop-next.invariant.ended) c.self.invariant c.loop-next.invariant.walked c.in_ok-fill.ensures c.in_ok-tree.ensures in
    walked.kept

pub returns : goal.returns
returns c =
    let walked =
    walked_all c.args.keys.now _ c.self.inside.tree.entries
    (option_to_list c.loop-next.next ++ c.loop-next.entries) c.loop-next.accounts.items
    c.fill.new.accounts.items c.loop-next.rest.items c.in_ok-tree.tree c.self.inside.total c.loop-next.total
    (sym (taken_first c.into_iter-entries.result c.next-next.new.self c.next-next.result c.next-next.ensures.steps) ∙ c.into_iter-entries.ensures.into_iter_gives.0)
    (none_left c.loop-next.next c.loop-next.entries c.in_default.is c.loop-next.invariant.ended) c.self.invariant c.loop-next.invariant.walked c.in_ok-fill.ensures c.in_ok-tree.ensures in
    record {
      taken = walked.found ∙ ap (λ s. map (get s) c.args.keys.now) c.self.view_is;
      rest = walked.rest ∙ ap (λ s. without s c.args.keys.now) c.self.view_is;
      state = walked.kept.is_state;
    }

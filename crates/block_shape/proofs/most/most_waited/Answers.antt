use Rattle.std.proofs.Common.{◌≡◌, List, rules, sym, subst}
use Rattle.std.proofs.lemmas.List.Sorted.{answers_always}
use Rattle.block_shape.specs.declared.most.Waited.{Waited}
use Rattle.block_shape.specs.Most.{AreWaited}
use Rattle.block_shape.proofs.MostLaws.{AreWaited-in, AreWaited-moved}
use Rattle.block_shape.proofs.most.most_waited.Goals as goal

pub returns : goal.returns
returns c =
    let order = c.args.order.now in
    record {
      all = c.sort_by_key.new.self.items;
      waited = AreWaited-moved order c.in_ok-waited.waited.items c.sort_by_key.new.self.items c.in_ok-sort_by_key.ensures.permutation
          (subst (λ (all : List Waited). AreWaited order all) (sym c.in_ok-waited.ensures.listed) (AreWaited-in order c.in_ok-waits.waits c.in_ok-waited.ensures.ordered c.in_ok-waits.ensures));
      sorted = c.in_ok-sort_by_key.ensures.sorted (λ (one : Waited). (record { 0 = one.count }, one.key))
          (answers_always _ (λ a r. r ≡ (record { 0 = a.0.now.count }, a.0.now.key)) _
          (λ f a r g k. search rules));
      first = c.truncate.ensures.items;
    }

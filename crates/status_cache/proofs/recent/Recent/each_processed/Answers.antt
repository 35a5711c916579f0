use Rattle.std.proofs.Common.{◌+◌, ◌||◌, ◌&&◌, false, get_or, take, ap, sym, ◌∙◌, []}
use Rattle.std.proofs.Math.Bool.{or-false, and_comm}
use Rattle.sol_base.specs.declared.key.Hash32.{Hash32}
use Rattle.sol_base.specs.Keys.{same_hash}
use Rattle.status_cache.specs.Recent.{has_hash, has_name, processed}
use Rattle.status_cache.proofs.SoughtLaws.{name_added, found_more}
use Rattle.status_cache.proofs.recent.Recent.each_processed.Goals as goal
use Rattle.status_cache.proofs.recent.Recent.each_processed.Goals.{then-was_processed+in_ok-insert, else-was_processed}

pub loop-message-preserved : goal.loop-message-preserved
loop-message-preserved c =
    let d : Hash32 = record { 0 = [] } in
    let i = c.loop-message.message-index in
    let m = get_or c.args.messages.now i d in
    let old = c.loop-message.found in
    let was = processed c.args.self.now in
    λ hash. found_more was (λ q. false) (has_name old) (has_name c.if-was_processed.found) c.args.messages.now i d c.loop-message-test.true
    (λ q. c.loop-message.invariant q ∙ and_comm (has_hash (take i c.args.messages.now) q) (was q))
    (elim c.if-was_processed.branch [
      | then-was_processed+in_ok-insert w ↦ λ q.
          ap (λ s. has_name s q) w.found-is ∙ name_added old w.insert.new.self m w.in_ok-insert.ensures.updates.0 q
          ∙ ap (λ t. has_name old q || (t && same_hash m q)) (sym w.if-was_processed.true ∙ c.was_processed.ensures)
      | else-was_processed w ↦ λ q.
          ap (λ s. has_name s q) w.found-is ∙ sym (or-false (has_name old q))
          ∙ ap (λ t. has_name old q || (t && same_hash m q)) (sym w.if-was_processed.false ∙ c.was_processed.ensures)
    ]) hash
    ∙ and_comm (was hash) (has_hash (take (i + 1) c.args.messages.now) hash)

use Rattle.std.proofs.Common.{◌∙◌}
use Rattle.status_cache.proofs.Search.{search_tells}
use Rattle.status_cache.proofs.recent.has_message.Goals as goal

pub returns : goal.returns
returns c = c.is_ok.ensures.value
    ∙ search_tells c.args.messages.now c.args.message.now c.requires c.binary_search.result
    (rw c.as_slice.ensures at c.binary_search.ensures.bound)
    (rw c.as_slice.ensures at c.binary_search.ensures.position)

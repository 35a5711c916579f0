use Rattle.prio_graph.proofs.ChainLaws as laws
use Rattle.prio_graph.proofs.laws.counters_tell.Goals as goal

pub returns : goal.returns
returns c = record { counters = laws.counters_tell }

use Rattle.std.proofs.Common.{◌+◌, ◌*◌}
use Rattle.side_by_side.proofs.each.+parts.Given as goal

abbrev pub decreases-start_from : goal.decreases-start_from
decreases-start_from g l = 4 * l.threads

abbrev pub decreases-start_part : goal.decreases-start_part
decreases-start_part g l = 4 * l.threads + 2

abbrev pub decreases-start_part-others : goal.decreases-start_part-others
decreases-start_part-others g l = 4 * l.threads + 1

-- The cycle of `node` and `run`. The first tree's rows that are left fall: 2i + 1 for the node at row i, 2e for the run before row e.
use Rattle.std.proofs.Common.{◌+◌}
use Rattle.join_rows.proofs.walk.+node_run.Given as goal

abbrev pub decreases-node : goal.decreases-node
decreases-node l = l.i + l.i + 1

abbrev pub decreases-run : goal.decreases-run
decreases-run l = l.e + l.e

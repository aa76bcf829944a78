use Rattle.std.proofs.Common.{◌≤◌}
use Rattle.hash_bench.proofs.read.Given as goal

abbrev pub invariant-reads : goal.invariant-reads
invariant-reads g l = l.n ≤ 65536

use Rattle.tables.specs.Tables.{seen}
use Rattle.engine.proofs.Going.{Going}
use Rattle.engine.proofs.judge.judge_in.Given as goal

abbrev pub invariant-loop-i : goal.invariant-loop-i
invariant-loop-i g l = Going (seen l.t) l.i l.at l.bounded l.labels

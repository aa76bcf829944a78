use Rattle.std.proofs.Common.{◌≡◌, ◌-◌, ◌≤◌, length}
use Rattle.columns.specs.Columns.{heads_back, heads_agree}
use Rattle.columns.specs.Seen.{head_of}
use Rattle.columns.proofs.heads.same_heads.Given as goal

abbrev pub invariant-loop-k : goal.invariant-loop-k
invariant-loop-k l = (l.e ≤ length l.c.table.types.now) × (l.f ≤ length l.c.table.types.now)
    × (heads_agree (heads_back (head_of l.c) l.c.starts.now l.count l.i) (heads_back (head_of l.c) l.c.starts.now l.count l.j)
    ≡ heads_agree (heads_back (head_of l.c) l.c.starts.now (l.count - l.k) l.e) (heads_back (head_of l.c) l.c.starts.now (l.count - l.k) l.f))

use Rattle.std.proofs.Common.{◌≡◌, ◌≤◌, ◌*◌, drop}
use Rattle.lookup.specs.Lookup.{first_of}
use Rattle.lookup.proofs.held.first_of.Given as goal

abbrev pub invariant-loop-i : goal.invariant-loop-i
invariant-loop-i l = (l.start ≤ 65535 * l.i)
    × (first_of l.kind 0 l.t.types.now l.t.lengths.now ≡ first_of l.kind l.start (drop l.i l.t.types.now) (drop l.i l.t.lengths.now))

use Prim.Native.Nat.{◌+◌, ◌-◌}
use mathlib.Core.Path.{◌≡◌, refl, ap}
use native.Mathlib.Omega.{arith}
use lib.ListN.{length}
use Rattle.lists.specs.PartsLaws.{put_is}
use Rattle.pick_rows.proofs.Putting.{written_more}
use Rattle.pick_rows.proofs.put.Goals as goal

pub returns : goal.returns
returns c =
    let a = c.args in
    let p = c.requires in
    let area = a.values2.now in
    let from = a.p.used in
    let all : from + (length area - from) ≡ length area = omega (arith, p.values_room) in
    record {
      row = refl;
      bytes = ap (λ n. from + n) c.from.ensures;
      adds =
          rw c.from.ensures (written_more a.t a.c a.l a.p.rows from a.part.now a.types2.now a.counts2.now a.lengths2.now area _ p
          (put_is area a.part.now _ from (length area - from) all c.copy.ensures.1));
    }

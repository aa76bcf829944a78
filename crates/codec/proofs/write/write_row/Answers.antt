use Rattle.std.proofs.Common.{length, sym, refl, arith}
use Rattle.bits.specs.Ink.{PutAsks}
use Rattle.codec.specs.Writing.{leaf_bits}
use Rattle.codec.specs.TableLaws.{row_small}
use Rattle.codec.proofs.WriteSteps.{node_bits, leaf_parts, dangling_behind, pair_behind, room_field, room_bytes, room_first, room_second, wrote_parts}
use Rattle.codec.proofs.write.write_row.Goals as goal
use Rattle.codec.proofs.write.write_row.Goals.{After-put-2}

pub overflow_add-lead : goal.overflow_add-lead
overflow_add-lead c = omega (arith, (row_small _ _ _ c.requires.0).count)

pub put-requires : goal.put-requires
put-requires c =
    let a = c.args in
    let low = (row_small _ _ _ c.requires.0).count in
    (room_field _ _ (node_bits a.kind a.count a.value.now c.if-count-gt0.true low) c.requires.1, omega arith, omega arith)

pub returns-then-count-gt0 : goal.returns-then-count-gt0
returns-then-count-gt0 c =
    let a = c.args in
    rw (sym (node_bits a.kind a.count a.value.now c.if-count-gt0.true (row_small _ _ _ c.requires.0).count)) c.put.ensures

pub put-requires-2 : goal.put-requires-2
put-requires-2 c = (
  room_field _ _ refl (room_first _ _ (leaf_parts _ _ _ c.requires.0 c.if-count-gt0.false) c.requires.1),
  omega arith,
  omega (arith, (row_small _ _ _ c.requires.0).type),
)

-- behind the type there is room for the second
room : (c : After-put-2) → PutAsks c.put-2.new.self (length (leaf_bits c.args.kind c.args.value.now)) c.put-2.new.out
room c = room_second _ _ (leaf_parts _ _ _ c.requires.0 c.if-count-gt0.false) c.requires.1 c.put-2.ensures c.put-2.auto.out

pub put_bytes-requires : goal.put_bytes-requires
put_bytes-requires c =
    room_bytes _ (dangling_behind c.args.kind _ c.if-kind-eq0.true) (room (goal.at.put_bytes-requires c).After-put-2)

pub returns-then-kind-eq0 : goal.returns-then-kind-eq0
returns-then-kind-eq0 c =
    wrote_parts _ _ (leaf_parts _ _ _ c.requires.0 c.if-count-gt0.false) c.put-2.ensures
    (rw (sym (dangling_behind c.args.kind c.args.value.now c.if-kind-eq0.true)) c.put_bytes.ensures)

pub put-requires-3 : goal.put-requires-3
put-requires-3 c = (
  room_field _ _ refl (room_first _ _ (pair_behind c.args.kind c.args.value.now (omega (arith, c.if-kind-eq0.false))) (room (goal.at.put-requires-3 c).After-put-2)),
  omega arith,
  omega (arith, (row_small _ _ _ c.requires.0).length),
)

pub put_bytes-requires-2 : goal.put_bytes-requires-2
put_bytes-requires-2 c =
    room_bytes _ refl
    (room_second _ _ (pair_behind c.args.kind c.args.value.now (omega (arith, c.if-kind-eq0.false))) (room (goal.at.put_bytes-requires-2 c).After-put-2)
    c.put-3.ensures c.put-3.auto.out)

pub returns : goal.returns
returns c =
    wrote_parts _ _ (leaf_parts _ _ _ c.requires.0 c.if-count-gt0.false) c.put-2.ensures
    (wrote_parts _ _ (pair_behind c.args.kind c.args.value.now (omega (arith, c.if-kind-eq0.false))) c.put-3.ensures c.put_bytes-2.ensures)

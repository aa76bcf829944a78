-- `codec::write::write_head` meets its contract, by two fields. Assumes nothing.
use native.Mathlib.Omega.{arith}
use Rattle.bits.specs.Bits.{bits_in}
use Rattle.bits.specs.FieldLaws.{length_bits_in}
use Rattle.bits.specs.InkLaws.{start, wrote_both}
use Rattle.tables.specs.Limits.{edition, edition_bits, count_bits}
use Rattle.codec.proofs.write.write_head.Goals as goal

pub put-requires-2 : goal.put-requires-2
put-requires-2 c =
    let w = rw c.new-pen.ensures at c.put.ensures in (
      record { ready = w.ready; fits = omega (arith, w.size, c.requires.1.fits, length_bits_in edition_bits edition, c.put.auto.out) },
      omega arith,
      omega (arith, c.requires.0),
    )

pub returns : goal.returns
returns c =
    let v = c.put in
    let w = c.put-2 in
    wrote_both start c.args.out.now (bits_in edition_bits edition) v.new.self v.new.out (bits_in count_bits c.args.n) w.new.self w.new.out
    (rw c.new-pen.ensures at v.ensures) w.ensures

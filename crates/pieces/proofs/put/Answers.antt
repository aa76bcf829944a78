-- `put` meets its contract: each part stands behind the one before.
use Rattle.std.proofs.Common.{refl, ◌∙◌}
use borrow.Rule.Slice.PartMut.{same_len_mid}
use Rattle.pieces.proofs.Writing.{piece_written}
use Rattle.pieces.proofs.put.Goals as goal

pub returns : goal.returns
returns c =
    let a = c.args in
    let pre = c.requires in
    let k = c.copy_from_slice in
    let s = c.copy_from_slice-2 in (
      refl,
      piece_written a.work.now a.text.now _ _ _ a.at a.kind _ _ _ pre.0 pre.1 pre.2
          (k.ensures.after ∙ c.to_be_bytes.ensures)
          (s.ensures.after ∙ c.to_be_bytes-2.ensures)
          c.copy_from_slice-3.ensures.after
          (same_len_mid _ _ _ _ k.auto.self)
          (same_len_mid _ _ _ _ s.auto.self),
    )

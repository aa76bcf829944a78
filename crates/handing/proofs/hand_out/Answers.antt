use Rattle.std.proofs.Common.{length, sym, ◌∙◌, arith}
use Rattle.tables.specs.Tables.{table, seen}
use Rattle.handing.proofs.Copying.{Fits, fits_told, copied, lacking, handed}
use Rattle.handing.proofs.hand_out.Goals as goal
use Rattle.handing.proofs.hand_out.Goals.{Else-lacks_room}

pub returns-then-lacks_room : goal.returns-then-lacks_room
returns-then-lacks_room c =
    rw (c.from.ensures, c.at.ensures) (lacking _ _ _ (omega arith) (sym c.lacks_room.ensures ∙ c.if-lacks_room.true))

-- each part fits its buffer
roomy : (c : Else-lacks_room) →
    let a = c.args in
    Fits (seen a.t) (length a.types_out.now) (length a.counts_out.now) (length a.lengths_out.now) (length a.values_out.now)
roomy c = fits_told _ _ _ _ _ (sym c.lacks_room.ensures ∙ c.if-lacks_room.false)

pub copy-requires : goal.copy-requires
copy-requires c = (roomy (goal.at.copy-requires c).Else-lacks_room).types_fit

pub copy-requires-2 : goal.copy-requires-2
copy-requires-2 c = (roomy (goal.at.copy-requires-2 c).Else-lacks_room).counts_fit

pub copy-requires-3 : goal.copy-requires-3
copy-requires-3 c = (roomy (goal.at.copy-requires-3 c).Else-lacks_room).lengths_fit

pub copy-requires-4 : goal.copy-requires-4
copy-requires-4 c = (roomy (goal.at.copy-requires-4 c).Else-lacks_room).values_fit

pub returns : goal.returns
returns c =
    let a = c.args in
    let t = copied a.t.types.now a.types_out.now c.copy.ensures.1 in
    let n = copied a.t.counts.now a.counts_out.now c.copy-2.ensures.1 in
    let l = copied a.t.lengths.now a.lengths_out.now c.copy-3.ensures.1 in
    let v = copied a.t.values.now a.values_out.now c.copy-4.ensures.1 in
    handed _ _ _ (omega arith) (sym c.lacks_room.ensures ∙ c.if-lacks_room.false) (λ i. table (t i) (n i) (l i) (v i))

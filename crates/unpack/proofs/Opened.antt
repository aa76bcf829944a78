-- The table of an opened slip, handed out.
use Prim.Native.Nat.{ℕ, ◌≤◌}
use mathlib.Core.List.{List}
use mathlib.Core.Path.{◌≡◌, sym, ap, ◌∙◌, subst₂}
use lib.ListN.{length, take}
use lib.Seq.{length-take-le}
use Rattle.tables.specs.Tables.{Table, table}
use Rattle.answers.specs.declared.Answer.{Answer}
use Rattle.slips.specs.declared.open.Opened.{Opened}
use Rattle.slips.specs.Check.{reading_of}
use Rattle.slips.specs.Opening.{OpenGives}
use Rattle.outcomes.specs.Outcome.{Leaves}
use Rattle.handing.specs.Handing.{handed_of}
use Rattle.unpack.specs.Unpack.{table_of}
use Rattle.unpack.specs.CellsLaws.{table_back}

-- the table opened is that of the rows read
pub opened_table : {s : List ℕ} {r : Opened} {types counts lengths values labels : List ℕ} → OpenGives s r types counts lengths values labels
    → r.rows ≤ length types → r.rows ≤ length counts → r.rows ≤ length lengths
    → table (take r.rows types) (take r.rows counts) (take r.rows lengths) (take r.used values) ≡ table_of (reading_of s).rows
opened_table {s} {r} {types} {counts} {lengths} {values} o a b c =
    let ts = length-take-le r.rows types a in
    let cs = length-take-le r.rows counts b in
    let ls = length-take-le r.rows lengths c in
    let vs = length-take-le r.used values o.room in
    sym
    (table_back (take r.rows types) (take r.rows counts) (take r.rows lengths) (take r.used values)
    (cs ∙ sym ts) (ls ∙ sym ts) (o.formed ∙ sym ts) (vs ∙ o.used))
    ∙ ap table_of o.rows

-- the same answer and the same table are handed out alike
pub handed_as : {a a' r : Answer} {t t' : Table} (b : Table) {left : Table} → a ≡ a' → t ≡ t'
    → Leaves (handed_of a t b) r left → Leaves (handed_of a' t' b) r left
handed_as {r = r} b {left} e f l = subst₂ (λ (x : Answer) (y : Table). Leaves (handed_of x y b) r left) e f l

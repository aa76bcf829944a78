-- The table that stands in the buffers once it is handed out.
use Rattle.std.specs.Prelude.{ℕ, List, ◌≡◌, refl, length, take, drop}
use Rattle.std.proofs.Common.{sym, take_at}
use Rattle.tables.specs.Tables.{Table, sum, Formed}
use Rattle.outcomes.specs.Outcome.{over}
use Rattle.handing.specs.Handing.{over_all}
use Rattle.unpack.specs.Unpack.{table_in}

front : (x y : List ℕ) → take (length x) (over x y) ≡ x
front x y = take_at x (drop (length x) y) (length x) refl

-- a table of the form, written over buffers, stands in them
pub in_over : (t b : Table) → Formed t → table_in (length t.types) (over_all t b) ≡ t
in_over t b f =
    let ts = front t.types b.types in
    let cs : take (length t.types) (over t.counts b.counts) ≡ t.counts = rw (sym f.columns.counts_long) (front t.counts b.counts) in
    let ls : take (length t.types) (over t.lengths b.lengths) ≡ t.lengths = rw (sym f.columns.lengths_long) (front t.lengths b.lengths) in
    let vs : take (sum t.lengths) (over t.values b.values) ≡ t.values = rw (sym f.area) (front t.values b.values) in
    rw (ts, cs, ls, vs)

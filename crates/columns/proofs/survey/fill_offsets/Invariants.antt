use Rattle.std.proofs.Common.{◌≡◌, ℕ, ◌*◌, ◌≤◌, ◌<◌, take, get_or}
use Rattle.tables.specs.Tables.{sum}
use Rattle.columns.proofs.survey.fill_offsets.Given as goal

abbrev pub invariant-loop-i : goal.invariant-loop-i
invariant-loop-i l = (l.total ≤ 65535 * l.i) × (l.total ≡ sum (take l.i l.lengths)) × ((x : ℕ) → x < l.i → get_or l.offsets x 0 ≡ sum (take x l.lengths))

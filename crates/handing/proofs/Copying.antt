-- What is handed out, by the tests, and what the test of the buffers tells.
use Rattle.std.proofs.Common.{ℕ, ◌≤◌, ◌≡◌, Bool, true, false, ◌||◌, List, ◌++◌, length, take, drop, ◌∙◌, refl, eq-eqb, ltb, ltb-false, ne_eqb}
use lib.Seq.{take-length}
use Rattle.lists.specs.TestsLaws.{or_left, or_right}
use Rattle.outcomes.specs.Refusals.{accepted, no_room, number_of}
use Rattle.outcomes.specs.RefusalsLaws.{numbered}
use Rattle.outcomes.specs.declared.numbers.Refused.{Refused}
use Rattle.outcomes.specs.Outcome.{over, Leaves}
use Rattle.tables.specs.Tables.{Table}
use Rattle.answers.specs.declared.Answer.{Answer}
use Rattle.answers.specs.Answers.{refused, refusal_answer}
use Rattle.handing.specs.Handing.{lacks_room, over_all, handed_of}

-- where none lacks room each part fits its buffer
pub record Fits (t : Table) (types counts lengths values : ℕ) : Type 0 where
  pub types_fit : length t.types ≤ types
  pub counts_fit : length t.counts ≤ counts
  pub lengths_fit : length t.lengths ≤ lengths
  pub values_fit : length t.values ≤ values

pub fits_told : (t : Table) (types counts lengths values : ℕ) → lacks_room t types counts lengths values ≡ false → Fits t types counts lengths values
unfolding lacks_room
fits_told t types counts lengths values e =
    let x : Bool = ltb types (length t.types) in
    let y : Bool = ltb counts (length t.counts) in
    let z : Bool = ltb lengths (length t.lengths) in
    let w : Bool = ltb values (length t.values) in
    let xyz = or_left ((x || y) || z) w e in
    let xy = or_left (x || y) z xyz in
    record {
      types_fit = ltb-false types (length t.types) (or_left x y xy);
      counts_fit = ltb-false counts (length t.counts) (or_right x y xy);
      lengths_fit = ltb-false lengths (length t.lengths) (or_right (x || y) z xyz);
      values_fit = ltb-false values (length t.values) (or_right ((x || y) || z) w e);
    }

-- what `lists::copy` leaves
pub copied : (x y : List ℕ) {z : List ℕ} → z ≡ take (length x) x ++ drop (length x) y → z ≡ over x y
copied x y e = e ∙ rw take-length

module _ (a : Answer) (t b : Table) (taken : a.number ≡ accepted) where
  pub lacking :
      lacks_room t (length b.types) (length b.counts) (length b.lengths) (length b.values) ≡ true
      → Leaves (handed_of a t b) (refused no_room 0) b
  unfolding handed_of
  lacking l = rw (eq-eqb a.number accepted taken, l) (record { answered = refl; written = refl })

  pub handed :
      lacks_room t (length b.types) (length b.counts) (length b.lengths) (length b.values) ≡ false
      → {left : Table}
      → left ≡ over_all t b
      → Leaves (handed_of a t b) a left
  unfolding handed_of
  handed l e = rw (eq-eqb a.number accepted taken, l) (record { answered = refl; written = e })

pub handed_back : (r : Refused) (t b : Table) → Leaves (handed_of (refusal_answer r) t b) (refusal_answer r) b
unfolding handed_of
handed_back r t b = rw (ne_eqb (number_of r.refusal) accepted (numbered r.refusal)) (record { answered = refl; written = refl })

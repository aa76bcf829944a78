-- A table handed out behind an answer: "slip, 11".
use Rattle.std.specs.Prelude.{ℕ, Bool, not, ◌||◌, List, [], ◌∷◌, ltb, eqb, length}
use Rattle.outcomes.specs.Chain.{chain}
use Rattle.outcomes.specs.Refusals.{accepted, no_room}
use Rattle.tables.specs.Tables.{Table}
use Rattle.answers.specs.declared.Answer.{Answer}
use Rattle.answers.specs.Answers.{refused}
use Rattle.outcomes.specs.Outcome.{Outcome, over}

-- one of the four is shorter than what it is to hold
unfoldable pub lacks_room : Table → ℕ → ℕ → ℕ → ℕ → Bool
lacks_room t types counts lengths values =
    ltb types (length t.types)
    || ltb counts (length t.counts)
    || ltb lengths (length t.lengths)
    || ltb values (length t.values)

-- "one row an entry in each column, and the value bytes"
abbrev pub over_all : Table → Table → Table
over_all t b =
    record {
      types = over t.types b.types;
      counts = over t.counts b.counts;
      lengths = over t.lengths b.lengths;
      values = over t.values b.values;
    }

-- "slip, 11": an answer to a slip, and its table for the buffers b
abbrev pub handed_tests : Answer → Table → Table → List (Bool × Outcome Answer Table)
handed_tests a t b =
    (not (eqb a.number accepted), record { answer = a; left = b })
    ∷ (lacks_room t (length b.types) (length b.counts) (length b.lengths) (length b.values), record { answer = refused no_room 0; left = b })
    ∷ []

unfoldable pub handed_of : Answer → Table → Table → Outcome Answer Table
handed_of a t b = chain (handed_tests a t b) (record { answer = a; left = over_all t b })

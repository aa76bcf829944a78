-- What the packer answers and leaves: "Packer: columns unequal or over 1,023 rows (16), 4, each row (16), values area not the sum of
-- lengths (16), 1, then 5 to 8 by entry, 9, 11."
use Rattle.std.specs.Prelude.{ℕ, Result, Ok, Err, Bool, not, cond, List, [], ◌∷◌, ltb, eqb, length}
use Rattle.outcomes.specs.Chain.{chain}
use Rattle.trees.specs.Rules.{max_bytes}
use Rattle.trees.specs.Rows.{Entry, Tag, Verdict, faulty, left, verdict}
use Rattle.outcomes.specs.Refusals.{accepted, too_long, no_nodes, not_one_tree, no_room, bad_table, number_of}
use Rattle.outcomes.specs.declared.numbers.Refused.{Refused}
use Rattle.tables.specs.Tables.{Table, entries, columns_fit, first_bad, row_bad, area_fits}
use Rattle.codec.specs.Writing.{slip_of}
use Rattle.engine.specs.Engine.{one_tree, root_label}
use Rattle.answers.specs.declared.Answer.{Answer}
use Rattle.answers.specs.Answers.{refused, taken}
use Rattle.outcomes.specs.Outcome.{Output, over}

-- the table's entries
abbrev pub rows_of : Table → List Entry
rows_of t = entries t.types t.counts t.lengths t.values

-- the number of the first row that is not of the form; the number of rows where all are
abbrev pub bad_row : Table → ℕ
bad_row t = first_bad 0 t.types t.counts t.lengths

-- the refusal of a table that has not the form, and its place; or 0
pub record Fault : Type 0 where
  pub number : ℕ
  pub place : ℕ

-- what the code tells of the form
abbrev pub fault_seen : Result (Unit {0}) Refused → Fault
fault_seen (Ok u) = record { number = accepted; place = 0 }
fault_seen (Err r) = record { number = number_of r.refusal; place = r.place }

-- "columns unequal or over 1,023 rows (16), 4, each row (16), values area not the sum of lengths (16)"; the tests of 16 are those of `tableFits`
abbrev pub fault_tests : Table → List (Bool × Fault)
fault_tests t =
    (not (columns_fit t.types t.counts t.lengths), record { number = bad_table; place = 0 })
    ∷ (eqb (length t.types) 0, record { number = no_nodes; place = 0 })
    ∷ (row_bad t, record { number = bad_table; place = bad_row t })
    ∷ (not (area_fits t), record { number = bad_table; place = 0 })
    ∷ []

-- the refusal and its place
unfoldable pub table_fault : Table → Fault
table_fault t = chain (fault_tests t) (record { number = accepted; place = 0 })

-- a refusal of the table, or the answer behind it
abbrev pub tabled : Fault → Answer → Answer
tabled f a = chain ((not (eqb f.number accepted), refused f.number f.place) ∷ []) a

-- "1"
abbrev pub size_tests : Table → List (Bool × Answer)
size_tests t = (ltb max_bytes (length (slip_of (rows_of t))), refused too_long 0) ∷ []

-- "9, 11", where the output has so much room
abbrev pub judged_tests : List Entry → ℕ → List Tag → List (Bool × Answer)
judged_tests es room st = (not (one_tree st), refused not_one_tree 0) ∷ (ltb room (length (slip_of es)), refused no_room 0) ∷ []

-- "then 5 to 8 by entry, 9, 11"
unfoldable pub judged_as : List Entry → ℕ → Verdict → Answer
judged_as es room (faulty k i) = refused k i
judged_as es room (left st b) = chain (judged_tests es room st) (taken (length (slip_of es)) b (root_label st))

module _ (H : List ℕ → List ℕ) (composed : List ℕ → Bool) where
  -- the packer's answer
  unfoldable pub answer_of : Table → ℕ → Answer
  answer_of t room =
      tabled (table_fault t) (chain (size_tests t) (judged_as (rows_of t) room (verdict H composed (rows_of t))))

  -- the packing of a table into an output: the slip where it is accepted, and nothing else is written
  unfoldable pub pack_of : Table → List ℕ → Output Answer
  pack_of t out =
      record {
        answer = answer_of t (length out);
        left = cond (eqb (answer_of t (length out)).number accepted) (over (slip_of (rows_of t)) out) out;
      }

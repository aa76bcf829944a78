-- What was read and what the engine tells of it, put together.
use Prim.Native.Nat.{ℕ, ◌≤◌}
use mathlib.Core.List.{List}
use mathlib.Core.Path.{◌≡◌, sym, ap, ◌∙◌, subst}
use native.Mathlib.Omega.{arith}
use lib.ListN.{length, take, drop}
use lib.Seq.{length-take-le}
use Rattle.bits.specs.Bits.{bits_of}
use Rattle.trees.specs.Rows.{Entry, verdict}
use Rattle.tables.specs.Tables.{entries, table}
use Rattle.codec.specs.Reading.{Reading, read_all}
use Rattle.tables.specs.Limits.{header_bits}
use Rattle.codec.specs.Reader.{stop, FillGives}
use Rattle.codec.specs.declared.fill.Filled.{Filled}
use Rattle.engine.specs.Engine.{told, judged_seen, RowsLabelled}
use Rattle.engine.specs.Judging.{JudgeAsks, JudgeGives}
use Rattle.engine.specs.declared.judge.Judged.{Judged}
use Rattle.outcomes.specs.declared.numbers.Refused.{Refused}
use Rattle.answers.specs.declared.Accepted.{Accepted}
use Rattle.std.specs.Prelude.{Result, is_ok}
use Rattle.sha256.specs.Sha256 as Sha256
use Rattle.titles.specs.Compose.{composed_text}
use Rattle.answers.specs.Answers.{answer_of}
use Rattle.slips.specs.Check.{count_of, reading_of, body_of}
use Rattle.slips.specs.Opening.{OpenAsks, settled_by, OpenGives}
use Rattle.slips.specs.Verdicts.{settled_told}

-- What was read lies within the columns and the area, which are as long as they came, and is what the engine asks.
module _ {s : List ℕ} {n : ℕ} {types₀ counts₀ lengths₀ values₀ labels : List ℕ} (p : OpenAsks s n types₀ counts₀ lengths₀ values₀ labels)
    {x : Reading} {r : Filled} {types counts lengths values : List ℕ} (f : FillGives s n x r types counts lengths values)
    (kt : length types ≡ length types₀) (kc : length counts ≡ length counts₀) (kl : length lengths ≡ length lengths₀)
  where
    pub types_in : r.rows ≤ length types
    types_in = omega (arith, f.few, p.types_room)

    pub counts_in : r.rows ≤ length counts
    counts_in = omega (arith, f.few, p.counts_room)

    pub lengths_in : r.rows ≤ length lengths
    lengths_in = omega (arith, f.few, p.lengths_room)

    pub read_given : JudgeAsks (table (take r.rows types) (take r.rows counts) (take r.rows lengths) (take r.used values)) labels
    read_given =
        let ts = length-take-le r.rows types types_in in
        let cs = length-take-le r.rows counts counts_in in
        let ls = length-take-le r.rows lengths lengths_in in
        let vs = length-take-le r.used values f.room in
        record {
          form =
              record {
                columns = record { counts_long = cs ∙ sym ts; lengths_long = ls ∙ sym ts; few = omega (arith, f.few, p.few) };
                rows = f.form ∙ sym ts;
                area = omega (arith, f.used);
              };
          short = omega (arith, f.used, f.packed, f.within, p.long);
          labels_room = omega (arith, f.few, p.labels_room);
        }

module _ (s : List ℕ) (n : ℕ) (counted : n ≡ count_of s) {r : Filled} {types counts lengths values : List ℕ}
    (f : FillGives s n (read_all n (drop header_bits (bits_of s))) r types counts lengths values)
    {j : Result Judged Refused} {labels : List ℕ}
    (g : JudgeGives (table (take r.rows types) (take r.rows counts) (take r.rows lengths) (take r.used values)) j labels)
  where
    reading : read_all n (drop header_bits (bits_of s)) ≡ reading_of s
    reading = ap (λ (m : ℕ). read_all m (drop header_bits (bits_of s))) counted

    rows_are : entries (take r.rows types) (take r.rows counts) (take r.rows lengths) (take r.used values) ≡ (reading_of s).rows
    rows_are = f.rows ∙ ap (λ (x : Reading). x.rows) reading

    told_as : judged_seen j ≡ told (verdict Sha256.label composed_text (reading_of s).rows)
    told_as = g.answer ∙ ap (λ (es : List Entry). told (verdict Sha256.label composed_text es)) rows_are

    pub opened : {a : Result Accepted Refused}
        → answer_of a ≡ settled_by (length s) r.rows (is_ok r.rest) (drop (stop r.rest) (bits_of s)) (judged_seen j)
        → OpenGives s (record { answer = a; rows = r.rows; used = r.used }) types counts lengths values labels
    unfolding body_of
    opened e =
        let count : r.rows ≡ length (reading_of s).rows = f.count ∙ ap (λ (x : Reading). length x.rows) reading in
        let whole = f.whole ∙ ap (λ (x : Reading). x.whole) reading in
        let rest = f.rest ∙ ap (λ (x : Reading). x.rest) reading in
        record {
          answer = e ∙ rw (count, whole, rest, told_as) (settled_told Sha256.label composed_text (length s) (reading_of s) (reading_of s).rows);
          count = count;
          rows = rows_are;
          formed = f.form;
          used = f.used;
          few = rw counted at f.few;
          room = f.room;
          labelled = subst (λ (es : List Entry). RowsLabelled Sha256.label composed_text es (take r.rows counts) labels) rows_are g.labelled;
        }

-- A turn of the loop: a refusal ends the run, or row i is taken; and the run after the last row.
use Prim.Native.Nat.{ℕ, zero, suc, ◌+◌, ◌-◌, ◌^◌, ◌≤◌, ◌<◌}
use mathlib.Core.Path.{◌≡◌, sym, ap, subst, ◌∙◌}
use mathlib.Core.Bool.{true}
use Rattle.std.specs.Prelude.{Ok, Err}
use Rattle.outcomes.specs.Refusals.{number_of}
use Rattle.outcomes.specs.declared.numbers.Refusal.{Refusal}
use mathlib.Core.List.{List, [], ◌∷◌, ◌++◌, append-nil, append_assoc}
use native.Mathlib.Omega.{arith}
use lib.ListN.{length, take, drop, get_or, length-append, length-take, length-drop}
use Rattle.lists.specs.Lists.{all}
use Rattle.lists.specs.TestsLaws.{and_left}
use Rattle.trees.specs.Nodes.{head_bytes}
use Rattle.trees.specs.Rows.{Entry, formed, Tag, Step, next, fault, onward, step_of, judged, verdict}
use Rattle.tables.specs.Tables.{Table, entry_of, row_fits, sum}
use Rattle.sha256.specs.Sha256 as Sha256
use Rattle.titles.specs.Compose.{composed_text}
use Rattle.engine.specs.Engine.{told, last_text, top_of, tops, RowsLabelled}
use Rattle.engine.specs.Judging.{JudgeSizedAsks, JudgeGives}
use Rattle.faults.specs.Waiting.{step_fault}
use Rattle.stack.specs.Areas.{Held, pieces, RootWhole, root_of, after, cost, noted, grown, GrowAsks}
use Rattle.faults.specs.Steps.{stops}
use Rattle.outcomes.specs.RefusalsLaws.{numbered}
use Rattle.engine.proofs.Growing.{whole, whole_long, bytes_of, after_whole, after_long, after_deep, after_cost, entry_sound, goes_on}
use Rattle.engine.proofs.Entries.{row_formed, row_small, entries_next, entries_end, row_fits_lem, sum_next}
use Rattle.engine.proofs.Noting.{noted_next}
use Rattle.engine.proofs.Going.{rows_of, rest, Going}
use Rattle.engine.proofs.Telling.{told_left}

-- an internal node has no value
bytes_most : (t c : ℕ) (v : List ℕ) → bytes_of (entry_of t c v) ≤ length v
bytes_most t zero v = omega arith
bytes_most t (suc c) v = omega arith

-- a root that waits alone has a whole label
root_whole : (st : List Tag) → all whole st ≡ true → RootWhole st
root_whole [] w = tt
root_whole (g ∷ []) w = whole_long g (and_left (whole g) true w)
root_whole (g ∷ (h ∷ gs)) w = tt

module _ (t : Table) (i at : ℕ) {nodes area : ℕ} {s : Held} {labels₀ labels : List ℕ}
    (g : JudgeSizedAsks t labels₀ nodes area)
    (w : Going t i at s labels)
  where
    -- the labels of all entries are those of the rows before
    labelled_by : tops Sha256.label composed_text [] (rows_of t) ≡ w.before → RowsLabelled Sha256.label composed_text (rows_of t) t.counts labels
    unfolding RowsLabelled
    labelled_by e k h some = w.noted k (omega (arith, ap length e, w.passed)) some ∙ ap (λ (l : List (List ℕ)). get_or l k []) (sym e)

    -- Row i, of the given type, count and length.
    module _ (inside : i < length t.types) {kind count long : ℕ}
        (ek : kind ≡ get_or t.types i 0)
        (ec : count ≡ get_or t.counts i 0)
        (el : long ≡ get_or t.lengths i 0)
      where
        -- its value, as the part `[at..at + long]`
        abbrev value : List ℕ
        value = take (at + long - at) (drop at t.values)

        abbrev entry : Entry
        entry = entry_of kind count value

        row_used : at + long + sum (drop (i + 1) t.lengths) ≡ sum t.lengths
        row_used = omega (arith, sum_next t.lengths i (omega (arith, g.given.form.columns.lengths_long)), w.used)

        pub value_fits : at + long ≤ length t.values
        value_fits = omega (arith, row_used, g.given.form.area)

        value_long : length value ≡ long
        value_long = omega (arith, length-take (at + long - at) (drop at t.values), length-drop at t.values, value_fits)

        fits : row_fits kind count long ≡ true
        fits = rw (ek, ec, el) (row_fits_lem 0 t.types t.counts t.lengths i (omega (arith, g.given.form.rows)) inside)

        entry_formed : formed entry ≡ true
        entry_formed = row_formed kind count value (subst (λ (n : ℕ). row_fits kind count n ≡ true) (sym value_long) fits)

        rest_is : rest t i at ≡ entry ∷ rest t (i + 1) (at + long)
        rest_is =
            let n : at + long - at ≡ get_or t.lengths i 0 = omega arith in
            entries_next t.types t.counts t.lengths t.values i at inside (omega (arith, g.given.form.columns.counts_long)) (omega (arith, g.given.form.columns.lengths_long))
            ∙ rw (n, ek, ec, el)

        -- the verdict and the labels, by what the entry's step is
        verdict_by : {x : Step} → step_of Sha256.label composed_text s.tags entry ≡ x
            → verdict Sha256.label composed_text (rows_of t) ≡ onward x i (λ z c. judged Sha256.label composed_text (rest t (i + 1) (at + long)) (i + 1) z (s.blocks + c))
        verdict_by e =
            w.verdict_is
            ∙ ap (λ (l : List Entry). judged Sha256.label composed_text l i s.tags s.blocks) rest_is
            ∙ ap (λ (x : Step). onward x i (λ z c. judged Sha256.label composed_text (rest t (i + 1) (at + long)) (i + 1) z (s.blocks + c))) e

        tops_by : {x : Step} → step_of Sha256.label composed_text s.tags entry ≡ x
            → tops Sha256.label composed_text [] (rows_of t) ≡ w.before ++ top_of x (λ z. tops Sha256.label composed_text z (rest t (i + 1) (at + long)))
        tops_by e =
            w.tops_are
            ∙ ap (λ (l : List Entry). w.before ++ tops Sha256.label composed_text s.tags l) rest_is
            ∙ ap (λ (x : Step). w.before ++ top_of x (λ z. tops Sha256.label composed_text z (rest t (i + 1) (at + long)))) e

        -- a refusal ends the run
        pub stopped :
            (r : Refusal)
            → number_of r ≡ step_fault (step_of Sha256.label composed_text s.tags entry)
            → JudgeGives t (Err (record { refusal = r; place = i })) labels
        unfolding told
        stopped r e =
            let step : step_of Sha256.label composed_text s.tags entry ≡ fault (number_of r) =
            stops Sha256.label composed_text s.tags entry (number_of r) e (numbered r) in
            record { answer = ap told (sym (verdict_by step)); labelled = labelled_by (tops_by step ∙ append-nil w.before) }

        -- else there is room for what it makes
        module _ (z : 0 ≡ step_fault (step_of Sha256.label composed_text s.tags entry)) where
          grows : length (pieces (after Sha256.label s.tags entry)) ≤ length (pieces s.tags) + head_bytes + long
          grows = omega (arith, after_long composed_text s.tags w.whole_labels entry entry_formed (sym z), bytes_most kind count value, value_long)

          pub ready : length labels ≡ length labels₀ → area < 2 ^ 61 → GrowAsks nodes area s entry i labels
          ready same small =
              record {
                fits =
                    record {
                      sound = entry_sound composed_text s.tags w.whole_labels entry entry_formed (sym z);
                      room = omega (arith, g.rows_fit, w.few);
                      work_room = omega (arith, grows, w.low, row_used, g.work_fits);
                      labels_room = omega (arith, g.given.labels_room);
                      counted = omega (arith, g.given.form.columns.few, w.counted);
                    };
                few = omega (arith, g.given.form.columns.few, inside, w.few);
                small = small;
              }

          -- and the run goes on
          pub going_next : {s' : Held} {labels' : List ℕ} → length labels ≡ length labels₀ → s' ≡ grown Sha256.label s entry → labels' ≡ noted Sha256.label s.tags entry i labels
              → Going t (i + 1) (at + long) s' labels'
          going_next {labels' = labels'} same e n =
              let es : List Entry = rest t (i + 1) (at + long) in
              let st' : List Tag = after Sha256.label s.tags entry in
              let x : List ℕ = last_text (after Sha256.label s.tags entry) in
              let step : step_of Sha256.label composed_text s.tags entry ≡ next (after Sha256.label s.tags entry) (cost s.tags entry) =
              goes_on Sha256.label composed_text s.tags entry (sym z) in
              subst (λ (h : Held). Going t (i + 1) (at + long) h labels') (sym e)
              (record {
                before = w.before ++ (x ∷ []);
                whole_labels = after_whole composed_text s.tags w.whole_labels entry entry_formed;
                verdict_is = verdict_by step;
                tops_are = tops_by step ∙ sym (append_assoc w.before (x ∷ []) (tops Sha256.label composed_text st' es));
                passed = length-append w.before (x ∷ []) ∙ ap (λ (m : ℕ). m + 1) w.passed;
                noted = noted_next s.tags kind i value t.counts labels w.before w.passed (omega (arith, g.given.labels_room)) w.noted count ec n;
                used = row_used;
                few = omega (arith, after_deep s.tags entry, w.few);
                low = omega (arith, grows, w.low);
                small = omega (arith, w.small, row_small kind count long fits);
                counted = omega (arith, w.counted, after_cost s.tags entry, w.low, w.small, g.given.form.columns.few);
              })

    -- After the last row.
    module _ (last : length t.types ≤ i) where
      none : rest t i at ≡ []
      none = entries_end t.types t.counts t.lengths t.values i at last

      pub done : JudgeGives t (Ok (record { blocks = s.blocks; root = root_of s.tags })) labels
      done =
          record {
            answer =
                told_left s.tags s.blocks
                ∙ ap told (sym (w.verdict_is ∙ ap (λ (l : List Entry). judged Sha256.label composed_text l i s.tags s.blocks) none));
            labelled = labelled_by (w.tops_are ∙ ap (λ (l : List Entry). w.before ++ tops Sha256.label composed_text s.tags l) none ∙ append-nil w.before);
          }

      pub root : RootWhole s.tags
      root = root_whole s.tags w.whole_labels

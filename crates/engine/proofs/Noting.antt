-- The labels noted row by row.
use Prim.Native.Nat.{ℕ, zero, suc, ◌+◌, ◌-◌, ◌*◌, ◌≤◌, ◌<◌}
use mathlib.Core.Path.{◌≡◌, sym, ap, ◌∙◌}
use mathlib.Core.List.{List, [], ◌∷◌, ◌++◌, map, append_assoc}
use native.Mathlib.Omega.{arith}
use lib.ListN.{length, take, drop, get_or, length-append, get_or-append}
use lib.Seq.{take_all, take-take, take_at, drop_at, get_or_at, length-take-le, paste, take-paste}
use borrow.Author.Count.{below_more}
use Rattle.trees.specs.Rules.{label_bytes}
use Rattle.trees.specs.Rows.{Tag, node, tip, kids, below, head_of, highest_of, parent}
use Rattle.tables.specs.Tables.{entry_of}
use Rattle.sha256.specs.Sha256 as Sha256
use Rattle.sha256.specs.Blocks.{label_long}
use Rattle.engine.specs.Engine.{last_text}
use Rattle.stack.specs.Areas.{pieces, after, noted}
use Rattle.lists.specs.PartsLaws.{part, front, same_part}

-- the text on the top
pub last_is : (st : List Tag) (g : Tag) → last_text (st ++ (g ∷ [])) ≡ g.text
last_is st g =
    ap (λ (x : Tag). x.text)
    (get_or_at st g [] (record { kind = 0; height = 0; text = [] }) (length (st ++ (g ∷ [])) - 1) (omega (arith, length-append st (g ∷ []))))

-- a label written at `at`, and the bytes before it
module _ (area text : List ℕ) (at n : ℕ) (room : at + n ≤ length area) (long : length text ≡ n) where
  there : take n (drop at (paste area at text n)) ≡ text
  there =
      let in_area : at ≤ length area = omega arith in
      let all : n ≤ length text = omega arith in
      let none : length text ≤ n = omega arith in
      let le : at ≤ at + n = omega arith in
      let e : at + n - at ≡ n = omega arith in
      ap (λ (m : ℕ). take m (drop at (paste area at text n))) (sym e)
      ∙ part (paste area at text n) at (at + n) le (take-paste area at text n in_area all)
      ∙ drop_at (take at area) (take n text) at (length-take-le at area in_area)
      ∙ take_all n text none

  front_kept : take at (paste area at text n) ≡ take at area
  front_kept =
      let in_area : at ≤ length area = omega arith in
      ap (take at) (append_assoc (take at area) (take n text) (drop (at + n) area))
      ∙ take_at (take at area) (take n text ++ drop (at + n) area) at (length-take-le at area in_area)

  apart : (b m : ℕ) → b + m ≤ at → take m (drop b (paste area at text n)) ≡ take m (drop b area)
  apart b m h =
      same_part b m (paste area at text n) area
      (front (paste area at text n) (b + m) at h front_kept ∙ take-take (b + m) at area h)

-- the row k of the area holds the label of its node, if that is internal
abbrev pub RowNoted : List ℕ → List ℕ → List (List ℕ) → ℕ → Type 0
RowNoted counts labels tops k = 0 < get_or counts k 0 → take label_bytes (drop (label_bytes * k) labels) ≡ get_or tops k []

-- what held of the rows before i holds up to i, when the label of row i's node has been noted
module _ (st : List Tag) (kind i : ℕ) (v counts labels : List ℕ) (before : List (List ℕ))
    (passed : length before ≡ i)
    (room : label_bytes * i + label_bytes ≤ length labels)
    (all : (k : ℕ) → k < i → RowNoted counts labels before k)
  where
    -- the rows before i, where their part of the area is as it was
    kept : (labels' x : List ℕ)
        → ((k : ℕ) → k < i → take label_bytes (drop (label_bytes * k) labels') ≡ take label_bytes (drop (label_bytes * k) labels))
        → (k : ℕ) → k < i → RowNoted counts labels' (before ++ (x ∷ [])) k
    kept labels' x same k h some =
        let h' : k < length before = omega arith in
        same k h ∙ all k h some ∙ sym (get_or-append before (x ∷ []) [] k h')

    pub noted_next : (count : ℕ) {labels' : List ℕ}
        → count ≡ get_or counts i 0
        → labels' ≡ noted Sha256.label st (entry_of kind count v) i labels
        → (k : ℕ) → k < i + 1 → RowNoted counts labels' (before ++ (last_text (after Sha256.label st (entry_of kind count v)) ∷ [])) k
    noted_next zero {labels'} e n =
        let x : List ℕ = last_text (after Sha256.label st (tip kind v)) in
        below_more (RowNoted counts labels' (before ++ (x ∷ []))) i
        (kept labels' x (λ k h. ap (λ (l : List ℕ). take label_bytes (drop (label_bytes * k) l)) n))
        (λ some. absurd (omega arith))
    noted_next (suc c) {labels'} e n =
        let gs : List Tag = kids (suc c) st in
        let text : List ℕ = Sha256.label (pieces gs) in
        let long : length text ≡ label_bytes = label_long (pieces gs) in
        let x : List ℕ = last_text (after Sha256.label st (node (suc c))) in
        below_more (RowNoted counts labels' (before ++ (x ∷ []))) i
        (kept labels' x
        (λ k h.
        ap (λ (l : List ℕ). take label_bytes (drop (label_bytes * k) l)) n
        ∙ apart labels text (label_bytes * i) label_bytes room long (label_bytes * k) label_bytes (omega arith)))
        (λ some.
        ap (λ (l : List ℕ). take label_bytes (drop (label_bytes * i) l)) n
        ∙ there labels text (label_bytes * i) label_bytes room long
        ∙ sym (last_is (below (suc c) st) (parent Sha256.label (highest_of gs) (map head_of gs)))
        ∙ sym (get_or_at before x [] [] i passed))

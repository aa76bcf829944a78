-- The columns of a table: each row's head, where its subtree starts, and the heads of its children.
use Rattle.std.specs.Prelude.{◌≡◌, Bool, true, cond, ◌&&◌, ◌||◌, List, [], ◌∷◌, ℕ, zero, suc, ◌+◌, ◌*◌, ◌≤◌, ◌<◌, eqb, length, take, drop, get_or}
use Rattle.lists.specs.Lists.{same}
use Rattle.trees.specs.Nodes.{Head}
use Rattle.trees.specs.Rules.{label_bytes}
use Rattle.tables.specs.Tables.{sum}

-- the part of the area that row x has
abbrev pub value_at : List ℕ → List ℕ → List ℕ → ℕ → List ℕ
value_at lengths values offsets x = take (get_or lengths x 0) (drop (get_or offsets x 0) values)

-- the label of row x: an internal row's stands in the labels, a leaf's in its part of the area
abbrev pub text_at : List ℕ → List ℕ → List ℕ → List ℕ → List ℕ → ℕ → List ℕ
text_at counts lengths values labels offsets x =
    cond (eqb (get_or counts x 0) 0) (value_at lengths values offsets x) (take label_bytes (drop (label_bytes * x) labels))

-- what the parent of row x hashes of it
abbrev pub head_at : List ℕ → List ℕ → List ℕ → List ℕ → List ℕ → List ℕ → ℕ → Head
head_at types counts lengths values labels offsets x = record { kind = get_or types x 0; text = text_at counts lengths values labels offsets x }

-- the row that k subtrees start at which end before row e, by the column of each row's first one
unfoldable pub back : List ℕ → ℕ → ℕ → ℕ
back starts zero e = e
back starts (suc k) zero = zero
back starts (suc k) (suc e) = back starts k (get_or starts e 0)

-- the heads of the roots of these subtrees, the last first
unfoldable pub heads_back : (ℕ → Head) → List ℕ → ℕ → ℕ → List Head
heads_back h starts zero e = []
heads_back h starts (suc k) zero = []
heads_back h starts (suc k) (suc e) = h e ∷ heads_back h starts k (get_or starts e 0)

-- two heads are equal, as a test that computes
abbrev pub same_head : Head → Head → Bool
same_head h g = eqb h.kind g.kind && same h.text g.text

-- two lists of heads are equal as far as both go
unfoldable pub heads_agree : List Head → List Head → Bool
heads_agree [] ys = true
heads_agree (x ∷ xs) [] = true
heads_agree (x ∷ xs) (y ∷ ys) = same_head x y && heads_agree xs ys

-- no child is left, or no row before it
abbrev pub none_left : ℕ → ℕ → ℕ → Bool
none_left k e f = eqb k 0 || (eqb e 0 || eqb f 0)

-- the first n rows have their starts: each starts where its children do
pub record Started (counts starts : List ℕ) (n : ℕ) : Type 0 where
  pub low : (x : ℕ) → x < n → get_or starts x 0 ≤ x
  pub are : (x : ℕ) → x < n → get_or starts x 0 ≡ back starts (get_or counts x 0) x

-- each row's subtree starts where its children do, and its part of the area after those of the rows before it
pub record SurveyGives (counts lengths starts offsets : List ℕ) : Type 0 where
  pub starts_long : length starts ≡ length counts
  pub offsets_long : length offsets ≡ length counts
  pub started : Started counts starts (length counts)
  pub offsets_are : (x : ℕ) → x < length counts → get_or offsets x 0 ≡ sum (take x lengths)

-- every row has a cell in each column, and its part of the area
pub record Placed (types counts lengths values offsets : List ℕ) : Type 0 where
  pub counts_long : length counts ≡ length types
  pub lengths_long : length lengths ≡ length types
  pub offsets_long : length offsets ≡ length types
  pub inside : (x : ℕ) → x < length types → get_or offsets x 0 + get_or lengths x 0 ≤ length values

-- columns that can be walked: every row has its start too, and its label
pub record Walkable (types counts lengths values labels starts offsets : List ℕ) : Type 0 where
  pub placed : Placed types counts lengths values offsets
  pub starts_long : length starts ≡ length types
  pub labels_room : label_bytes * length types ≤ length labels
  pub starts_low : (x : ℕ) → x < length types → get_or starts x 0 ≤ x

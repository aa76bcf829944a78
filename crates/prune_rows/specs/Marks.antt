-- What becomes of each row of a table that is pruned: one mark a row, found from the last row to the first.
use Rattle.std.specs.Prelude.{ℕ, zero, suc, ◌+◌, Bool, cond, List, [], ◌∷◌, ◌++◌, replicate}
use Rattle.prune_rows.specs.declared.marks.Mark.{Mark}
use Rattle.prune_rows.specs.declared.marks.Mark.TheVariants.{Gone, Kept, CutOff}
use Rattle.trees.specs.Nodes.{Node, Run, inner, leaf, nil, cons, size, sizes}

-- "its descendants go"
abbrev pub gone : Mark
gone = Gone

-- a row that stays as it is
abbrev pub kept : Mark
kept = Kept

-- "Each becomes dangling with its label"
abbrev pub cut_off : Mark
cut_off = CutOff

-- a mark held as a byte: any from 2 on cuts off
abbrev pub mark_of : ℕ → Mark
mark_of zero = gone
mark_of (suc zero) = kept
mark_of (suc (suc k)) = cut_off

-- the byte written for a mark
abbrev pub byte_of : Mark → ℕ
byte_of Gone = 0
byte_of Kept = 1
byte_of CutOff = 2

-- the marks of the rows from one on, and how many subtrees before it are still owed to a row that is cut off
pub record Walk : Type 0 where
  pub marks : List Mark
  pub owed : ℕ

abbrev pub state : List Mark → ℕ → Walk
state ms o = record { marks = ms; owed = o }

-- the mark of a row, named or not, before which so many subtrees are owed
abbrev pub mark_by : Bool → ℕ → Mark
mark_by b zero = cond b cut_off kept
mark_by b (suc o) = gone

-- what is owed before it, where the row has c children
abbrev pub owed_by : Bool → ℕ → ℕ → ℕ
owed_by b c zero = cond b c 0
owed_by b c (suc o) = o + c

-- one row more, before the others
abbrev pub step_back : Bool → ℕ → Walk → Walk
step_back b c w = state (mark_by b w.owed ∷ w.marks) (owed_by b c w.owed)

-- nothing is owed behind the last row
abbrev pub at_end : Walk
at_end = state [] 0

module _ (f : ℕ → Bool) where
  -- the walk from the last row to the first, where f names rows and the first row has the number i
  abbrev pub walk : List ℕ → ℕ → Walk → Walk
  walk [] i w = w
  walk (c ∷ cs) i w = step_back (f i) c (walk cs (i + 1) w)

  -- the same marks by the tree, whose first entry has the number b
  abbrev mutual
    pub marks_of : ℕ → Node → List Mark
    marks_of b (inner r) = cond (f (b + sizes r)) (replicate (sizes r) gone ++ (cut_off ∷ [])) (marks_in b r ++ (kept ∷ []))
    marks_of b (leaf t v) = cond (f b) cut_off kept ∷ []

    -- of a run: the children's end to end
    pub marks_in : ℕ → Run → List Mark
    marks_in b nil = []
    marks_in b (cons n r) = marks_of b n ++ marks_in (b + size n) r

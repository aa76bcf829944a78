-- What the stack engine answers of a table's entries, and the labels that it leaves.
use Rattle.std.specs.Prelude.{ℕ, ◌*◌, ◌-◌, ◌<◌, Bool, false, cond, List, [], ◌∷◌, ◌≡◌, eqb, length, take, drop, get_or, Result, Ok, Err, is_some, unwrap_or}
use Rattle.trees.specs.Rules.{label_bytes, no_label}
use Rattle.trees.specs.Rows.{Entry, Tag, Step, fault, next, Verdict, faulty, left, step_of}
use Rattle.outcomes.specs.Refusals.{accepted, number_of}
use Rattle.outcomes.specs.declared.numbers.Refused.{Refused}
use Rattle.engine.specs.declared.judge.Judged as code

-- what is told of a table's rows: the first refusal with its entry, or whether one tree waits, its label, and the blocks
pub record Judged : Type 0 where
  pub number : ℕ
  pub place : ℕ
  pub one : Bool
  pub blocks : ℕ
  pub label : List ℕ

-- what the code tells
abbrev pub judged_seen : Result code.Judged Refused → Judged
judged_seen (Ok j) = record { number = accepted; place = 0; one = is_some j.root; blocks = j.blocks; label = unwrap_or j.root no_label }
judged_seen (Err r) = record { number = number_of r.refusal; place = r.place; one = false; blocks = 0; label = no_label }

-- one tree waits, "with a root of type 0"
abbrev pub one_tree : List Tag → Bool
one_tree [] = false
one_tree (g ∷ []) = eqb g.kind 0
one_tree (g ∷ (h ∷ gs)) = false

-- the label of that root
abbrev pub root_label : List Tag → List ℕ
root_label [] = no_label
root_label (g ∷ []) = cond (eqb g.kind 0) g.text no_label
root_label (g ∷ (h ∷ gs)) = no_label

-- what is told of a verdict
unfoldable pub told : Verdict → Judged
told (faulty k i) = record { number = k; place = i; one = false; blocks = 0; label = no_label }
told (left st b) = record { number = 0; place = 0; one = one_tree st; blocks = b; label = root_label st }

-- the text of the node that waits last
abbrev pub last_text : List Tag → List ℕ
last_text st = (get_or st (length st - 1) (record { kind = 0; height = 0; text = [] })).text

-- a refusal ends the run; else the text on the top, and what follows
abbrev pub top_of : Step → (List Tag → List (List ℕ)) → List (List ℕ)
top_of (fault k) go = []
top_of (next st c) go = last_text st ∷ go st

module _ (H : List ℕ → List ℕ) (composed : List ℕ → Bool) where
  -- the label of each entry's node, up to the first refusal: the text on the top of the stack when the entry has been taken
  abbrev pub tops : List Tag → List Entry → List (List ℕ)
  tops st [] = []
  tops st (e ∷ es) = top_of (step_of H composed st e) (λ z. tops z es)

  -- an area that holds 32 bytes for each entry, and at each internal node's entry its label
  unfoldable pub RowsLabelled : List Entry → List ℕ → List ℕ → Type 0
  RowsLabelled es counts area =
      (k : ℕ) → k < length (tops [] es) → 0 < get_or counts k 0 → take label_bytes (drop (label_bytes * k) area) ≡ get_or (tops [] es) k []

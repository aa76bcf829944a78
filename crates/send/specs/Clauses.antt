-- What sending asks and gives.
use Rattle.std.specs.Prelude.{ℕ, List, ◌≡◌, length}
use Rattle.trees.specs.Nodes.{Node, label}
use Rattle.trees.specs.Rules.{label_bytes}
use Rattle.tables.specs.Records.{TreeTable}
use Rattle.answers.specs.declared.Answer.{Answer}
use Rattle.outcomes.specs.Outcome.{Leaves}
use Rattle.send.specs.Sent.{sent_tree}

-- the table of some tree
pub record SendTreeAsks (types counts lengths values : List ℕ) : Type 0 where
  pub tree : Node
  pub table : TreeTable tree types counts lengths values

-- for every label function of 32 bytes and every tree with this table and this root label, that tree's slip
abbrev pub SendTreeGives : List ℕ → List ℕ → List ℕ → List ℕ → List ℕ → List ℕ → Answer → List ℕ → Type 0
SendTreeGives types counts lengths values l out r left =
    (H : List ℕ → List ℕ)
    → ((x : List ℕ) → length (H x) ≡ label_bytes)
    → (n : Node)
    → TreeTable n types counts lengths values
    → l ≡ label H n
    → Leaves (sent_tree H n out) r left

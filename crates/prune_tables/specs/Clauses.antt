-- What the parts of the pruning of a table ask and give.
use Rattle.std.specs.Prelude.{ℕ, ◌≤◌, List, ◌≡◌, length}
use Rattle.trees.specs.Nodes.{Node, label}
use Rattle.trees.specs.Rules.{max_bytes}
use Rattle.tables.specs.PruningList.{first_fault, pruned}
use Rattle.tables.specs.Records.{Holds}
use Rattle.sha256.specs.Sha256 as Sha256
use Rattle.send.specs.Sent.{sent_tree}
use Rattle.answers.specs.declared.Answer.{Answer}
use Rattle.outcomes.specs.Outcome.{Leaves}
use Rattle.prune_tables.specs.Pruned.{pruned_of}

-- a table that holds a tree
pub record CutAsks (types counts lengths values labels : List ℕ) : Type 0 where
  pub n : Node
  pub holds : Holds Sha256.label n types counts lengths values labels
  pub most : length values ≤ max_bytes

-- whatever tree with this root label the table holds, it is pruned by the list, or 12
abbrev pub CutGives : List ℕ → List ℕ → List ℕ → List ℕ → List ℕ → List ℕ → List ℕ → List ℕ → Answer → List ℕ → Type 0
CutGives types counts lengths values labels list l out r left =
    (n : Node)
    → Holds Sha256.label n types counts lengths values labels
    → l ≡ label Sha256.label n
    → Leaves (pruned_of Sha256.label counts list n out) r left

-- and a list without fault
pub record CleanAsks (types counts lengths values labels list : List ℕ) : Type 0 where
  pub asks : CutAsks types counts lengths values labels
  pub clean : first_fault counts 0 0 list ≡ length list

-- the pruned tree is sent
abbrev pub CleanGives : List ℕ → List ℕ → List ℕ → List ℕ → List ℕ → List ℕ → List ℕ → List ℕ → Answer → List ℕ → Type 0
CleanGives types counts lengths values labels list l out r left =
    (n : Node)
    → Holds Sha256.label n types counts lengths values labels
    → l ≡ label Sha256.label n
    → Leaves (sent_tree Sha256.label (pruned Sha256.label list n) out) r left

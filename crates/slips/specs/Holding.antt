-- A table that holds the tree of an accepted slip.
use Rattle.std.specs.Prelude.{ℕ, List, take}
use Rattle.tables.specs.Records.{Holds}
use Rattle.sha256.specs.Sha256 as Sha256
use Rattle.titles.specs.Compose.{composed_text}
use Rattle.slips.specs.SlipTree.{slip_tree}
use Rattle.slips.specs.SlipTreeLaws.{ReadsAs}

-- the columns, cut at the rows read, with the areas hold the slip's tree
pub record HoldsTree (s : List ℕ) (rows : ℕ) (types counts lengths values labels : List ℕ) : Type 0 where
  pub reads_as : ReadsAs Sha256.label composed_text s (slip_tree s)
  pub holds : Holds Sha256.label (slip_tree s) (take rows types) (take rows counts) (take rows lengths) values labels

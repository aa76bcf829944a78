-- What the pruning of a table answers and leaves.
pub mod Pruned
-- What its parts ask and give.
pub mod Clauses
-- Laws:
pub mod CutLaws

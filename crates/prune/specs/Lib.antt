-- What pruning a slip answers and leaves.
pub mod Prune
-- Theorems, and the laws behind them:
pub mod PruneTheorems
pub mod PruneCallLaws

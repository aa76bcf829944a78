-- Pruning a table by entry numbers. Definitions, in reading order:
pub mod Clauses
pub mod Marks
pub mod Picked
pub mod Steps
pub mod Names
-- The definitions on a small tree, computed:
pub mod Examples
-- Theorems:
pub mod NamesLaws
pub mod PrunedLaws
pub mod Width
-- The laws behind them:
pub mod MarksLaws
pub mod PickedLaws
pub mod PickedTrees
pub mod TableLaws

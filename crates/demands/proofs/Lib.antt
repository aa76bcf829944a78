-- Demands 1 and 3, as theorems:
pub mod Demand1
pub mod Demand3
-- Demand 3 on bytes, computed:
pub mod Instances
-- The laws behind them:
pub mod LibraryLaws

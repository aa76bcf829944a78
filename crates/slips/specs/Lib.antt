-- What the check answers. Definitions, in reading order:
pub mod Check
pub mod SlipTree
-- What a slip is opened in, and what the areas then hold.
pub mod Opening
pub mod Holding
-- Document 01's marked cases, computed:
pub mod Cases
-- Theorems:
pub mod InTurn
pub mod SlipTrees
pub mod ByteTrees
pub mod SlipRefusals
-- The laws behind them:
pub mod HeaderLaws
pub mod Verdicts
pub mod SlipTreeLaws
pub mod RowLabelLaws
pub mod HoldingLaws

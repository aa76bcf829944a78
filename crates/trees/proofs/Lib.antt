-- Theorems on the definitions of specs/, and the laws behind them:
pub mod NodesLaws
pub mod OrderLaws
pub mod PruneLaws
pub mod JoinLaws
pub mod FirstClash
pub mod JoinAlgebra
pub mod RulesLaws
pub mod Theorem1
pub mod StackLaws
pub mod StackSound
pub mod RefusedLaws
pub mod Replies
pub mod EndsLaws
pub mod Demand3

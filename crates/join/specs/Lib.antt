-- What the join of two slips answers and leaves.
pub mod Join
-- Theorems:
pub mod JoinTheorems

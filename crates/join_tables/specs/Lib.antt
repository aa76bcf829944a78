-- What the join of two tables answers and leaves.
pub mod Joined
-- What its parts ask and give.
pub mod Clauses

-- What the join of two slips answers and leaves, by the answers to the two.
pub mod Bodies

-- What the search of a pair gives.
pub mod Clauses

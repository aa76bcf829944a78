-- Laws that the functions' proofs cite: the stack,
pub mod Growing
pub mod Telling
-- and the rows in turn.
pub mod Entries
pub mod Noting
pub mod Going
pub mod Turns

-- Laws that the functions' proofs cite.
pub mod Going
pub mod Sums

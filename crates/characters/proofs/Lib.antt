-- Laws that the functions' proofs cite.
pub mod Rows

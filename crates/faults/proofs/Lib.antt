-- Laws that the functions' proofs cite.
pub mod Columns
pub mod Salt

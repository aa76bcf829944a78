-- Laws that the functions' proofs cite.
pub mod Block
pub mod Steps

-- Laws that the functions' proofs cite.
pub mod Putting
pub mod Picking

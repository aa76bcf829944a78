-- Laws that the functions' proofs cite.
pub mod Naming
pub mod Marking

-- Laws that the functions' proofs cite.
pub mod Settling
pub mod Opened

-- Laws that the functions' proofs cite.
pub mod Surveying
pub mod Comparing
pub mod Gathering

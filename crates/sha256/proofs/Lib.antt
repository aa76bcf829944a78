-- Laws that the functions' proofs cite.
pub mod Bytes
pub mod Chains
pub mod Holding
pub mod Finishing

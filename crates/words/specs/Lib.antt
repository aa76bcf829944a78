-- The words of SHA-2, and what tells one hash of the family from another.
pub mod Words
pub mod Kind
pub mod Sha256

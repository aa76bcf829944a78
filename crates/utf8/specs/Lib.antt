-- What the tests of bytes and the reading at a place give.
pub mod Clauses

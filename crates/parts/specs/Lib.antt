-- What a number of 16 bits is.
pub mod Sixteen

-- One block of SHA-2 as FIPS 180-4 defines it, over the width of a word.
pub mod Compression

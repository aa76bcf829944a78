-- SHA-2 of a text as FIPS 180-4 defines it, over the width of a word. Definitions, in reading order:
pub mod Padding
pub mod Digest
pub mod Sha256
pub mod Running
-- FIPS 180-4's worked examples, computed:
pub mod Examples
-- Laws:
pub mod Blocks

-- Bytes as bits, "packed with the most significant bit first". Definitions, in reading order:
pub mod Bits
pub mod Reads
pub mod Ink
-- Laws:
pub mod FieldLaws
pub mod ByteLaws
pub mod InkLaws

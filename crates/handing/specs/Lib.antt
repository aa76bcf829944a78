-- A table handed out behind an answer, and what is left in the buffers.
pub mod Handing
-- Laws:
pub mod HandingLaws

-- What the unpacker answers and leaves in its buffers.
pub mod Unpack
-- Laws:
pub mod CellsLaws
pub mod UnpackLaws

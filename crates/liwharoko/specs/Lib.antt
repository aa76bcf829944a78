-- What the static library hands out.
pub mod Parts

-- What the stack engine answers.
pub mod Engine
pub mod Judging

-- What a page holds, and what the values print.
pub mod Held
pub mod Shown

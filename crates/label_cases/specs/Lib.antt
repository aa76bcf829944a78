-- Sample cases under another label function than SHA-256, which show that the definitions hold of any.
pub mod Values
pub mod Checked
pub mod Pruned
pub mod Joined

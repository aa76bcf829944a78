-- How the areas hold the stack.
pub mod Areas
-- Laws:
pub mod PieceLaws

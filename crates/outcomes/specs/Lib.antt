-- The refusal numbers, outcomes, and outcomes by tests in order.
pub mod Refusals
pub mod Outcome
pub mod Chain
-- Laws:
pub mod ChainLaws
pub mod OutcomeLaws
pub mod RefusalsLaws

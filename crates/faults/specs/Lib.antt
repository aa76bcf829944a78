-- The columns of the nodes that wait, and the refusal of a step. Definitions:
pub mod Waiting
-- Laws:
pub mod WaitingLaws
pub mod Steps

-- What the packer answers and leaves in its output.
pub mod Pack
-- What its parts give.
pub mod Clauses
-- The laws of its tests, behind the theorems of proofs/:
pub mod PackLaws

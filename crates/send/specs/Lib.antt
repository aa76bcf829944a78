-- What is sent, and the blocks that are reported with it. Definitions:
pub mod Sent
pub mod Blocks
pub mod Clauses
-- The walk on small tables, computed:
pub mod Examples
-- Laws:
pub mod SentLaws
pub mod BlocksLaws
pub mod SafeLaws

-- The three demands of the request, over the definitions that the public calls' contracts cite. Definitions, in reading order:
pub mod InOrder
pub mod Refusals
pub mod Library
-- Theorems (those that a must-fail edit of these definitions makes false stand in proofs/):
pub mod TitleRefusals
pub mod TitleOrder
pub mod Demand2
pub mod Sixteen
pub mod OneAnswer
-- The ● cases, computed:
pub mod Marked
-- The laws behind the theorems:
pub mod InOrderLaws

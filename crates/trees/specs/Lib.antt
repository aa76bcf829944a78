-- Typed hash trees. Definitions, in reading order:
pub mod Nodes
pub mod Rules
pub mod Places
pub mod Join
pub mod Rows
pub mod Ends
-- Document 01's cases, computed:
pub mod Examples
-- Theorems:
pub mod PlacesLaws
pub mod RowLabels
pub mod RowLabelsLaws
pub mod RowsLaws
pub mod NumbersLaws
pub mod Forest
pub mod Refused

-- The numbers of document 01, and what the unpacked table is. Definitions, in reading order:
pub mod Limits
pub mod Measure
pub mod Areas
pub mod Tables
pub mod Cells
pub mod PruningList
pub mod ListRule
pub mod Records
-- Laws:
pub mod TablesLaws

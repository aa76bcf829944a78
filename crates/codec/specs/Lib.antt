-- The bits of a slip: how entries are written, and how they are read. Definitions, in reading order:
pub mod Writing
pub mod Reading
pub mod Proper
-- What the reader and the writer ask and give:
pub mod Reader
pub mod Writer
-- Document 01's own slips, computed:
pub mod Examples
-- Theorems:
pub mod RoundTrip
pub mod SlipLaws
-- The laws behind them:
pub mod ReadingLaws
pub mod TableLaws
pub mod MeasureLaws
pub mod ProperLaws

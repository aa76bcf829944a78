-- What the composer answers and leaves. Definitions, in reading order:
pub mod Compose
pub mod Goes
-- What its scan gives.
pub mod Scan
-- Document 01's marked cases, computed:
pub mod Cases
-- Theorems:
pub mod TitleTheorems
-- The laws behind them:
pub mod ClustersLaws
pub mod ComposeLaws

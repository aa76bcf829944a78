-- Theorems:
pub mod DecodingLaws
pub mod NfcTheorem
-- The laws behind them:
pub mod SequencesLaws
pub mod PairsLaws
pub mod MarksLaws
pub mod Composition
pub mod DecompositionLaws
pub mod OrderLaws
pub mod CompositionLaws

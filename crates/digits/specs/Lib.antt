-- What digits spell.
pub mod Digits
-- Laws:
pub mod DigitsLaws

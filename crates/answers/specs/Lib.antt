-- What a call on slips answers. Definitions, in reading order:
pub mod Answers
pub mod Both
-- Laws:
pub mod BothLaws

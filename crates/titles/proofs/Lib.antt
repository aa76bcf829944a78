-- The theorem of every answer with its condition; in proofs/, since a must-fail edit of its definitions makes a lemma of it false:
pub mod GoesLaws
-- Laws that the functions' proofs cite.
pub mod Reached
pub mod Answers

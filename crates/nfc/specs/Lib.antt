-- UTF-8, the repertoire and NFC by Unicode's rules. Definitions, in reading order:
pub mod Utf8
pub mod Repertoire
pub mod Pairs
pub mod Joining
pub mod Decompositions
pub mod Nfc
-- Stored answers of another implementation, met by computation:
pub mod Vector
pub mod Utf8Vectors
pub mod NfcVectors
-- Laws of these that stand by themselves; proofs/ has those that the must-fail edits make false, and what rests on them:
pub mod Cons
pub mod BoundsLaws
pub mod FrontsLaws
pub mod EncodingsLaws

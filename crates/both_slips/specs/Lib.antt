-- A slip whose header is taken.
pub mod Headed
-- What two slips are held in, and what the columns then hold.
pub mod Clauses

-- What is read off the columns of tables. Definitions, in reading order:
pub mod Columns
pub mod Seen
pub mod Meetings
pub mod Gathers
-- Laws:
pub mod ColumnsLaws

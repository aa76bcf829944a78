-- Plain lists and Bools: what more than one crate says and uses of them. Definitions:
pub mod Lists
-- Laws:
pub mod TestsLaws
pub mod ListsLaws
pub mod PartsLaws

-- What the lookup finds in two unpacked records.
pub mod Lookup
-- On each side of its rules, computed:
pub mod Examples
-- Laws:
pub mod LookupLaws
pub mod Agreement

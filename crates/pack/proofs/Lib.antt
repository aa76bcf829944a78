-- The cases of the packer's tests:
pub mod FaultLaws
-- Theorems, packing and unpacking undo each other among them:
pub mod PackTrees
pub mod RoundTrips
pub mod PackRefusals

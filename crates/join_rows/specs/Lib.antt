-- The join of two tables. Definitions, in reading order:
pub mod Faces
pub mod Walks
pub mod Plans
-- What the plan asks, met:
pub mod Examples
-- Laws:
pub mod FacesLaws
pub mod Runs
pub mod StartsLaws
pub mod JoinWeight
pub mod WalksLaws
pub mod AgreeLaws
pub mod Meets
pub mod RunSteps
pub mod TablesLaws
pub mod TwoLaws
pub mod PlanLaws
pub mod GatherLaws
pub mod JoinTable

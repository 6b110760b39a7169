pub mod NamedPaths
pub mod Plans
pub mod Sorting
pub mod Outcomes
pub mod VerdictRule
pub mod PlanLaws
pub mod Shown

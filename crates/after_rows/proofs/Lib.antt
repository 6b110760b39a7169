pub mod Feasible
pub mod Saying
pub mod GoingOn

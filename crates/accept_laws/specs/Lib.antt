pub mod Lines
pub mod Answers
pub mod ShownPlans
pub mod Renumbering
pub mod Stripping
pub mod Compacting
pub mod Deletion

pub mod Contained
pub mod Deleted
pub mod Excluded
pub mod Judged
pub mod LineFaults
pub mod PlanFaults
pub mod RootFaults
pub mod Accepts

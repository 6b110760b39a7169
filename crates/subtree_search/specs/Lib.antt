pub mod Recalling
pub mod Explaining
pub mod Looking
pub mod Entries
pub mod Plans
pub mod Walks
pub mod SearchSteps
pub mod Closings

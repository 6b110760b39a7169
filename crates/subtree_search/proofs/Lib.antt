pub mod Planned
pub mod Visited
pub mod Explaining
pub mod SumDead
pub mod PassingBy
pub mod Looking
pub mod Advancing
pub mod Exploring
pub mod Fronts
pub mod Closing
pub mod Jumping
mod Serving
mod Comparing

pub mod Commands
pub mod Solving
pub mod Options
pub mod Promises

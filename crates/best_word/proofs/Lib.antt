pub mod Keeps
pub mod Joining

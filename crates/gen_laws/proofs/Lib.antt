mod Cutting
mod Says
mod Passing
mod Stages
mod Refusing
pub mod Networks

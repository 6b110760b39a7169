pub mod Forwards
pub mod SlotSteps
pub mod Starts
pub mod Standing
pub mod Floors

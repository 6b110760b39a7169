pub mod RelayWords
pub mod Fronts
pub mod RelayRuns

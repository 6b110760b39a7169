pub mod Jobs
pub mod RingSteps
pub mod Lists
pub mod Seats
pub mod Hands

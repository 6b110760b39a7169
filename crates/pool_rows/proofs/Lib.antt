pub mod Asking
pub mod AskedRows
pub mod Offering
pub mod Reading
pub mod Since
pub mod Crowded

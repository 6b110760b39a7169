pub mod RingRule
pub mod Dealing

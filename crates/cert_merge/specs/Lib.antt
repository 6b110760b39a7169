pub mod Growth
pub mod Compacting

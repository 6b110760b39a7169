pub mod Between
pub mod SliceFaults
pub mod Edges

pub mod Copying
pub mod PoolRows

pub mod Gaps
pub mod Left
pub mod Outside
pub mod ArcLines
pub mod Heights
pub mod Removals

pub mod Depths
pub mod ChoicesAtPlace
pub mod ByPath
pub mod Refuted
pub mod Rules
pub mod OneVerdict
pub mod Formed

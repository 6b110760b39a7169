pub mod ByPlace
pub mod Implying
pub mod MoreLines
pub mod Segmenting
pub mod Examples
pub mod Ended
pub mod Numbering
pub mod BareLines

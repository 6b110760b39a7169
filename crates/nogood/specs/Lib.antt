pub mod Literals
pub mod Partials
pub mod Rows
pub mod LiteralLaws

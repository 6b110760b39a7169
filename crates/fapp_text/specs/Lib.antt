pub mod Lines
pub mod Fields
pub mod Numbers
pub mod Left
pub mod LineLaws
pub mod Reading
pub mod Signs
pub mod FaultTexts

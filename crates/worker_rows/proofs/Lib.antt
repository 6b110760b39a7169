pub mod SpentLaws
pub mod Popped

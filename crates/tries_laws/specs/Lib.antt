pub mod PrefixLaws
pub mod JobLaws
pub mod TriesLaws
pub mod LineLaws
pub mod ExampleInstances
pub mod ExampleLaws

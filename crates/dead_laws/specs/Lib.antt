pub mod TagLaws
pub mod ArcLaws
pub mod ImpliedLaws
pub mod DeadLaws
pub mod ExampleInstances
pub mod ExampleLaws

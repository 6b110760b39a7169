pub mod GapLaws
pub mod LeftLaws
pub mod HeightLaws
pub mod LineLaws
pub mod StepLaws
pub mod LevelLaws

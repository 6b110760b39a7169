pub mod LineLemmas
pub mod FieldLemmas
pub mod DigitLemmas
pub mod PlaceLemmas
pub mod LawProofs
pub mod ReadingSteps
pub mod SignLemmas

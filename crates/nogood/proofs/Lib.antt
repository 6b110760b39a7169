pub mod Merges
pub mod JoinLemmas

-- What a search and a certificate rest on, beside the instance and the cost of its plans.
pub mod Pairs
pub mod Modes
pub mod Partials
pub mod Implied
pub mod Clashes
pub mod Arcs
pub mod Weights
pub mod Dead
pub mod WorkOrder
pub mod Prefixes
pub mod Tries
pub mod Jobs
pub mod LineBound

pub mod Orderings
pub mod Making

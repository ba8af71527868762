pub mod Fractions
pub mod Counted

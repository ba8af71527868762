pub mod Ratios
pub mod Days
pub mod Factors
pub mod Crossing

pub mod Kinds
pub mod Within
pub mod Factors

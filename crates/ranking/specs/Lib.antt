pub mod Numbers
pub mod Order
pub mod Letters
pub mod Counts
pub mod Percentile
pub mod Answer

pub mod Totals
pub mod Answering
pub mod Submitting
pub mod Lawful

pub mod Labels
pub mod Entries
pub mod Pages
pub mod Differences
pub mod Ranges
pub mod Making

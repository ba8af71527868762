pub mod Tests
pub mod Shares
pub mod Tallies
pub mod Bests
pub mod Candidates
pub mod Worked

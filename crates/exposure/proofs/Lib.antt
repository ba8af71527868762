pub mod RatesMade
pub mod Figuring
pub mod Valuing

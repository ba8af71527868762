pub mod Products
pub mod Backs
pub mod Terms
pub mod Sums
pub mod Tops
pub mod Greatests
pub mod FactorsMade

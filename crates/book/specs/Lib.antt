pub mod Shown
pub mod Laws
pub mod Opening

pub mod Bytes
pub mod Steps
pub mod Filed
pub mod Calls
pub mod Scripts
pub mod Valuations
pub mod Headers

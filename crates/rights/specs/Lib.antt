pub mod Rights
pub mod Covers

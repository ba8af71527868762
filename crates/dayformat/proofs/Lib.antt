pub mod Chunks
pub mod Opening
pub mod Heading
pub mod Placing

pub mod Digits
pub mod Writing
pub mod Going
pub mod Opening
pub mod Answering

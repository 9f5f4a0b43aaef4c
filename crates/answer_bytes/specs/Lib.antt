pub mod Sizes
pub mod Writing

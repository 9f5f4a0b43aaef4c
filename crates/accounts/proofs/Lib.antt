pub mod Performing
pub mod Writes

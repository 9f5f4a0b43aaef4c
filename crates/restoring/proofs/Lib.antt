pub mod Checking
pub mod Versions
pub mod Restoring

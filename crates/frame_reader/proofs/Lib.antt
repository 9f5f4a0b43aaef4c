pub mod Codes
pub mod Sized
pub mod Supplied

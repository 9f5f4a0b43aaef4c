pub mod Placing
pub mod Putting
pub mod Renewing

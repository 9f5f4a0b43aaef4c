pub mod Comparing
pub mod Storing
pub mod Words

pub mod Rows
pub mod Output

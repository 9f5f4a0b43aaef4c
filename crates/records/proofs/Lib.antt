pub mod Rows
pub mod Fields
pub mod Records
pub mod Room

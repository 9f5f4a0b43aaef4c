pub mod Tables
pub mod Decoding

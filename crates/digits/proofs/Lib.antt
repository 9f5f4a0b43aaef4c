pub mod Tables
pub mod Decoding
pub mod Spelling

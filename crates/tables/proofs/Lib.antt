pub mod Moving
pub mod Gap
pub mod Stores
pub mod Whole

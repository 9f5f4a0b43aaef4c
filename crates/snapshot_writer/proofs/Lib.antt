pub mod Appending
pub mod PlaceRows
pub mod Answering

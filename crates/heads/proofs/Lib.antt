pub mod Draws
pub mod InPlace

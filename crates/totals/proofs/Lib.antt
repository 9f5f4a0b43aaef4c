pub mod Carrying
pub mod Fitting

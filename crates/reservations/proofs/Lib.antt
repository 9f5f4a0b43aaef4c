pub mod Fitting
pub mod Performing
pub mod Stepping
pub mod Reserving
pub mod Ending

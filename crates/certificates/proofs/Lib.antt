pub mod BothTotals
pub mod Certifying
pub mod Adding
pub mod OverPlaces
pub mod Summarizing
pub mod Taking

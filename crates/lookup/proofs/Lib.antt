pub mod FirstPlace
pub mod Halving
pub mod Places
pub mod Bookings

pub mod Contents
pub mod Room
pub mod Seats
pub mod LedgerBytes

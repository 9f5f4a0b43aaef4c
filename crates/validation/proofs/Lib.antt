pub mod Deciding
pub mod Balancing
pub mod Validating
pub mod Seen
pub mod Standing
pub mod Passing

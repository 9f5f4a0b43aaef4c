pub mod Facts
pub mod Steps
pub mod Making

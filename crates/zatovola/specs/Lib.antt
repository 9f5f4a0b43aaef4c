pub mod Interface
pub mod Reads
pub mod Recorder

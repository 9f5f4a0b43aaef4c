pub mod Told
pub mod SameReading
pub mod Results

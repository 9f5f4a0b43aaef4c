pub mod Results
pub mod SameBytes

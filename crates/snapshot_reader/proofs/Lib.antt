pub mod RowBytes
pub mod Header
pub mod Passing
pub mod Rows
pub mod Towards
pub mod Checking

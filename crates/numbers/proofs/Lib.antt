pub mod Bytes
pub mod Copying
pub mod LittleEndian
pub mod Amounts

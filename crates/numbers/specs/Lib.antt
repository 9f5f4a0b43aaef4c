pub mod LittleEndian
pub mod Amounts

pub mod MigratedBytes
pub mod Refusing

pub mod Answering
pub mod AnyTurns
pub mod Parts
pub mod Reading
pub mod WholeInput

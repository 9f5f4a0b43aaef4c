pub mod AnswerWords
pub mod Recording
pub mod Refusals
pub mod Shapes
pub mod Reading

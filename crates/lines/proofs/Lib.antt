pub mod AnswerLines
pub mod Decoded
pub mod FirstLine
pub mod LineFound
pub mod SameAnswers
pub mod StaysKnown
pub mod Stretch

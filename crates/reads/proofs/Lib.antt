pub mod Seeking
pub mod Sums
pub mod Totals

pub mod SameResult

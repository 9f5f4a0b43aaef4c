pub mod QuietAnswers
pub mod HandedOver
pub mod RoomSize
pub mod SameAnswers
pub mod SameReads

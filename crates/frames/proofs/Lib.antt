pub mod Performing
pub mod Arms
pub mod BehindTheNumber
pub mod RoomForSnapshots

pub mod Joined
pub mod Marks
pub mod Rows
pub mod Taken
pub mod Degrees

pub mod Streams
pub mod Sending

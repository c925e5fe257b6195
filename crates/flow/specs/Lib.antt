pub mod Messages
pub mod Requests

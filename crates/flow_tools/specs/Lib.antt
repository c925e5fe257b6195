pub mod streams
pub mod running
pub mod solving
pub mod connecting
pub mod checking
pub mod laws

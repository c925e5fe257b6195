pub mod Phases
pub mod Entries
pub mod NearSends
pub mod Trees
pub mod Waves
pub mod Testing

pub mod Outcomes
pub mod LeastSides

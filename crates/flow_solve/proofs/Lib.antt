mod ResidualLemmas
mod SideLemmas
mod LevelLemmas
pub mod ForestLemmas
pub mod Raises
mod Payments

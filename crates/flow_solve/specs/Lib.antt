pub mod Bounds
pub mod Steps
pub mod residual
pub mod Solving
pub mod Task
pub mod Sides
pub mod levels
pub mod Forests

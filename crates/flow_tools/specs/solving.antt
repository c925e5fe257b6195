pub mod Sides
pub mod Solutions
pub mod ArrangedProblems

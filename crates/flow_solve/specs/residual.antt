pub mod HalfArcs
pub mod Packs
pub mod Searches
pub mod Trails

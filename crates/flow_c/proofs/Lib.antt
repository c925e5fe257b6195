pub mod MarkLemmas
pub mod ListLemmas
pub mod FaultLemmas
pub mod CheckLemmas

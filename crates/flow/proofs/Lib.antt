pub mod MessageLemmas
pub mod RequestLemmas

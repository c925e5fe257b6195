pub mod StreamParts
pub mod SendLemmas

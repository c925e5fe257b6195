pub mod PullLemmas
pub mod EndLemmas
pub mod TextRunLemmas

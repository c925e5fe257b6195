pub mod LineSums
pub mod ArcSums
pub mod Shares
pub mod NodeSumLemmas
pub mod Judging
pub mod PairSums

pub mod SolutionFlows
pub mod LineFlows
pub mod Verdicts
pub mod FirstFaults
pub mod FeasibleSolutions
pub mod ArcShares
pub mod NodeSums

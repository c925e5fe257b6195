-- What other crates cite.
pub use Rattle.flow_tools.proofs.streams.SendLemmas
pub use Rattle.flow_tools.proofs.streams.StreamParts
pub use Rattle.flow_tools.proofs.connecting.ConnectAnswers
pub use Rattle.flow_tools.proofs.checking.LineSums
pub use Rattle.flow_tools.proofs.checking.ArcSums
pub use Rattle.flow_tools.proofs.checking.Shares
pub use Rattle.flow_tools.proofs.checking.NodeSumLemmas

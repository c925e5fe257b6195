mod CircleLemmas
pub mod ConnectAnswers
pub mod ConnectingLemmas

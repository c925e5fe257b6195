pub mod LineLemmas
pub mod PrintLemmas
pub mod ArrangedLemmas
pub mod AnswerLemmas

pub mod PrintedNumbers
pub mod PrintedLines
pub mod OptimalTexts
pub mod CutTextLemmas

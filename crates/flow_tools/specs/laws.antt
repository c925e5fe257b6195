pub mod SolvedTexts
pub mod CutTexts

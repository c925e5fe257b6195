pub mod OnePass
pub mod Reading
pub mod Answers
pub mod Exits
pub mod AnswerExits
pub mod TextRuns

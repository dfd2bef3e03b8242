pub mod AnswerLemmas
pub mod WordsLemmas

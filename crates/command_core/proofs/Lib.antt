pub mod ArgumentsLemmas
pub mod FaultLineLemmas
pub mod ProgramLemmas
pub mod PromiseLemmas
pub mod QuestionsLemmas
pub mod TaskActsLemmas
pub mod TaskInputLemmas
pub mod TaskLemmas

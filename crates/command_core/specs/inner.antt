pub mod ArgumentsWords
pub mod Program
pub mod TaskActs
pub mod TaskValues

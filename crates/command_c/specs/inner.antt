pub mod Answer
pub mod Report
pub mod Words

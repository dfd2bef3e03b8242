pub mod Answer
pub mod Memory
pub mod Report
pub mod Words
pub mod inner

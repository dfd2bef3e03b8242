pub mod Digest
pub mod LackedRows
pub mod Reading
pub mod Shown
pub mod Writing
pub mod inner

pub mod Part
pub mod Row
pub mod Rows

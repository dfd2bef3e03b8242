pub mod Message
pub mod Row
pub mod RowStrings
pub mod Rows
pub mod RowsCompact
pub mod inner

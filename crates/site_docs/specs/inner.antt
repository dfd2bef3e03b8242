pub mod Envelope
pub mod Plain
pub mod PlainRows
pub mod PlainStamps
pub mod ShownRows
pub mod StampsDraft
pub mod Unread

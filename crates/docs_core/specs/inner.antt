pub mod EditedRows
pub mod FoundChanges
pub mod JoinedRows
pub mod Merging
pub mod Revised
pub mod StampedRows
pub mod SyncedRows
pub mod Updating

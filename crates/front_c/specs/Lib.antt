pub mod Calls
pub mod Handles
pub mod Question
pub mod Reporting
pub mod Rules
pub mod SiteHandleHeld
pub mod Status
pub mod inner

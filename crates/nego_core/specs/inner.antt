pub mod Choosing
pub mod Filtering
pub mod Shortlist
pub mod Unranked
pub mod WidenedChoice

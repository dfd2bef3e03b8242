pub mod Arrivals
pub mod Exchange
pub mod OpenSite
pub mod TagFilter
pub mod TagPick
pub mod Tags

pub mod AnswerEq
pub mod DeltaSeeking
pub mod LatestKnown
pub mod PlayFault
pub mod Site
pub mod SummaryEq
pub mod World

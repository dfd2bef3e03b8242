pub mod AscendingLabels
pub mod AscendingMap
pub mod MembersRowsSeen

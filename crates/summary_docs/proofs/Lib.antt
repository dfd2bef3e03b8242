pub mod DigestLemmas
pub mod LackedRowsLemmas
pub mod LackedRowsPassedLemmas
pub mod ReadingLemmas
pub mod ShownDeltaLemmas
pub mod ShownLemmas
pub mod WritingLemmas

pub mod FailsLemmas
pub mod ReadingFiles

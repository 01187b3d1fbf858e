pub mod ExecutedLemmas
pub mod ReplayLemmas
pub mod SceneLemmas

pub mod Begins
pub mod KeptLemmas
pub mod Others
pub mod OutcomeLemmas
pub mod Rows

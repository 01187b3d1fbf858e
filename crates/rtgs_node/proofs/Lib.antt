pub mod Checks
pub mod Amounts
pub mod KeptLemmas
pub mod Notices
pub mod Held
pub mod Whole
pub mod Worked

pub mod Life
pub mod Replica
pub mod Saving

pub mod Meanings
pub mod Codes
pub mod Near
pub mod Broken
pub mod Parts
pub mod Tree
pub mod Explained
pub mod Finding

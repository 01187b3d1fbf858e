pub mod Names
pub mod Words
pub mod Messages
pub mod Meanings
pub mod Stands
pub mod Attempts

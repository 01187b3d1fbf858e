pub mod Plays
pub mod Twins
pub mod Unhindered

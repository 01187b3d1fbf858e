pub mod Clients
pub mod Kept
pub mod News
pub mod Outcomes
pub mod Running

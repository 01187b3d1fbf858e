pub mod Progress
pub mod Recovering

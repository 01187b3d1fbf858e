pub mod Node
pub mod Fault
pub mod Shown
pub mod Kept
pub mod Laws

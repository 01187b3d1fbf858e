mod Cells
mod Promises
mod Recovering
mod Restarts
pub mod Shows
mod Waits

pub mod Fault
pub mod Text
pub mod Disk
pub mod Memory
pub mod FileCell
pub mod Cut

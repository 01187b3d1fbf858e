pub mod Hosts
pub mod Lines
pub mod Places
pub mod Marks
-- which journals are whole, computed
mod WorkedMarks

pub mod EachTold
pub mod LineCounted
pub mod BrokenWords
pub mod Finding
pub mod TreeFinding
pub mod ByteFinding
pub mod Commons

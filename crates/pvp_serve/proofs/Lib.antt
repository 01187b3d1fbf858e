pub mod Taking
pub mod Terminals
mod Outdated
mod Unowed
-- what is due at a tick, computed
mod WorkedTicks
-- which clocks are too far ahead, computed
mod WorkedClocks
-- over which stream mail goes, computed
mod WorkedLanes

pub mod Streams
-- what a writer does with a frame, and with one frame more
pub mod Written
-- streams that have taken all of their frames
pub mod Wholes
pub mod Differences
pub mod Sealed
pub mod Again
pub mod Found
pub mod Lasts
pub mod Never
pub mod HeardOut
pub mod WorkedFronts

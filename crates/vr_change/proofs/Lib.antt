pub mod Ballots
pub mod Cases
pub mod Counts
pub mod Left
pub mod Openings
pub mod Sites
pub mod Votes

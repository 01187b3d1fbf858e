pub mod Ballot
pub mod Fits
pub mod Parts

pub mod ActorNumbers
pub mod Choosing
pub mod ChoosingPick
pub mod ChoosingPlace
pub mod ChoosingRight
pub mod ChoosingState
pub mod Lists
pub mod Pages
mod Runs
pub mod Saving
pub mod Vectors
mod WorkedRuns
mod WorkedSteps
mod WrongRule

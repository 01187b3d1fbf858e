pub mod BooksText
pub mod Cells
pub mod Chaos
pub mod Lines
pub mod Notes
pub mod Passing
pub mod Player
pub mod Turns

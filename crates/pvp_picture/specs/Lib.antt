pub mod Escape
pub mod Picture
pub mod Replay
pub mod Scene

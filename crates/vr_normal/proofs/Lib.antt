mod Again
mod BeatLemmas
mod Cases
mod Supports

-- histories and rooms that took one event more
pub mod Growing
-- a replica takes an event
pub mod SiteSteps
-- what a gate or an outbox hears
pub mod Hearing
-- what a node or a client sends has room
pub mod Requesting
pub mod Looks
pub mod Rises
pub mod Together
pub mod Used
pub mod Order
pub mod Grows
pub mod Least
pub mod Halving
pub mod Lists
pub mod Receiving
pub mod Endings
pub mod OneFailing
pub mod OneVerdict

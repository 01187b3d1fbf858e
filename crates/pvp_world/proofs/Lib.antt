-- right choices for the bank's commands
mod Choosing
-- the world before anything was done
pub mod Openings
-- what is dropped sends nothing
pub mod Silent
-- what a replica's handling of an event is, of the site that it shows
mod Sites
-- a move more on a trail
mod Trails
-- what a node or a client sends at once
pub mod Sent
-- how a world moves
mod Moving
-- falls that are told
mod Falling
-- what a step tells of saves
mod Saves
-- the headline where a trail leads
mod Proved
-- where it is no dead end
mod GoingOn
-- many steps, one after another
mod Many
-- each reason that a world has is its bank's
pub mod Refused
-- an allowed step is refused only where memory is
pub mod Allowed

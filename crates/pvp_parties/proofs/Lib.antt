-- lists that are the same item by item
pub mod Lists
-- a replica takes an event again
pub mod SiteFollows
-- events of an actor's own kind, and of another, which are strays
pub mod Strays
-- numbers that rise from place to place
pub mod Rising

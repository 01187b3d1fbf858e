-- what an answer says of the seats and of the tally
pub mod Answering
-- lines that were played so far
pub mod PlayedLines
-- looks at sites, one after another
pub mod Looks
-- sites that opened over new cells
pub mod Begun
-- numbers one after another, and where sites stand one after another
pub mod Rows
-- seats from the opening of their cells to their close
pub mod Seating

pub mod BooksLemmas
pub mod CellsLemmas
pub mod ChaosLemmas
-- the post only grows, and a drain delivers its next open envelopes
pub mod Growing
pub mod Draining
pub mod LinesLemmas
pub mod PassingLemmas
pub mod NotesLemmas
-- who makes notes
pub mod Noting
pub mod PlayerLemmas
-- cells that do not fail
pub mod Reliable
-- the books of a world, computed
mod WorkedBooks

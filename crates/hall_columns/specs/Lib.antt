-- The hall's entry over columns. Assumes nothing.
-- Sets   how many arrays of each table there are, and which sets are long
-- Entry  what the entry promises
pub mod Sets
pub mod Entry

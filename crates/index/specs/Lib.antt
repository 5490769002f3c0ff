-- The index of the best moves: each vertex's other blocks in the order of choice.
-- Row       a list in a row of the table, rewritten store by store
-- Keys      the number that code orders a vertex's blocks by
-- Checked   a row in which each block goes behind the one before it is ranked
-- Sink      one block put into its place in a row
-- Entered   a row ranked anew, block by block
-- Indexed   the row that each vertex is to have, and all rows made right
pub mod Row
pub mod Keys
pub mod Checked
pub mod Sink
pub mod Entered
pub mod Indexed

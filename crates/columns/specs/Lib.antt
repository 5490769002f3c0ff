-- The engine with the lots as three tables. Assumes nothing.
-- Entry  the lengths of lent memory, and what the engine promises
pub mod Entry

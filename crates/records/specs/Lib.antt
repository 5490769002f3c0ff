-- A list of lots' records, and the tables of numbers that it stands for. Assumes nothing.
-- Over    the first places of a list, taken from another
-- Fields  each field of a list of records as a table of its own; a table once its first records are written
-- Lent    the engine's promise on four tables of its own, carried over to the records
-- Entry   what the records' entry and the function inside it promise
pub mod Over
pub mod Fields
pub mod Lent
pub mod Entry

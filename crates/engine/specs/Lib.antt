-- The engine: a sale file and lent memory in, the report and lent memory out. Assumes nothing.
-- Listing  a catalogue and a list of calls apart from each other
pub mod Listing

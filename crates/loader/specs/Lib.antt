-- What loading a catalogue, and a sale file, leaves in lent memory.
-- Tables  the lent lists, what they hold after an accepted catalogue, the loader's promise
pub mod Tables

-- The closing reports of a hall's catalogues. Assumes nothing.
-- Closings  the sets that they are read from, and their text one after another
pub mod Closings

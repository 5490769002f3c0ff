-- What the functions answer, against model's grammar and tables.
-- Seen    books read off the tables; the lot lines and the call lines
-- Buyers  the buyers' lines
-- Whole   the phases joined: what a catalogue is read as
pub mod Seen
pub mod Buyers
pub mod Whole

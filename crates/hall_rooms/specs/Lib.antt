-- What the hall's limit leaves.
-- Rooms  the rows by the tables of what blocks bear
pub mod Rooms

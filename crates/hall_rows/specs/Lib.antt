-- What the functions of this crate read, and what they are to stand on. Assumes nothing.
-- Desks  the engine's tables of a hall
-- Left   what the hall's entry left for a file
pub mod Desks
pub mod Left

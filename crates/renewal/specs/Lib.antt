-- The table of loaded pins rewritten without gaps, when a vertex is taken out of a running sale or put into it.
-- Nets     the nets without a vertex, and those with one more; where a net's pins begin; the tables that hold nets
-- Columns  a table written from the front or from the back, entry by entry
-- Taking   a vertex taken out: one net's stretch closed up, then all of them
-- Putting  a vertex put in: one net's stretch moved up, then all of them, the last first
-- Clearing zeros behind the last pin
-- Held     the tables in document 01's words, there and back; the number of pins with a vertex put in
pub mod Nets
pub mod Columns
pub mod Taking
pub mod Putting
pub mod Clearing
pub mod Held

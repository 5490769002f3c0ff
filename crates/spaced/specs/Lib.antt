-- What the functions for one line of numbers answer, against the definitions of an hMETIS file. Assumes nothing.
-- Row    the words of a line, and the weight and the vertices of an edge's line
-- Pins   the vertices of an edge, checked and written
pub mod Row
pub mod Pins

-- What the functions for a hall's own lines answer, against model's HallText.
-- Heading   the first line
-- Leading   a call line, led by a number
-- LedTable  the table of led calls, and the call lines
pub mod Heading
pub mod Leading
pub mod LedTable

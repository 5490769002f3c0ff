-- What the functions of the converter answer, against the definitions of an input and of its conversion. Assumes nothing.
-- Number  the numbers of refusals, and weight codes
-- Form   the form of an input, and where its parts start
-- Check  what is carried over, the tables that hold it, and its text
pub mod Number
pub mod Form
pub mod Check

-- What the functions for one line of a sale file answer, against model's grammar.
-- Line  the first line, a lot line, a call line other than N
-- Late  N's numbers in the table of operands, and a call line of any kind
-- Mark  the marks of one buyer, and a buyer's line
pub mod Line
pub mod Late
pub mod Mark

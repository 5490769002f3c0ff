-- The calls W, P and A as steps of the machine on a running sale. Assumes nothing.
-- Searching  what W and P need, and that they meet what edit_calls's Called says of a call
-- Cycling    the same of A
pub mod Searching
pub mod Cycling

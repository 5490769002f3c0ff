-- The rows of the index that a move can change. Assumes nothing.
-- Near       what the functions ask, and which rows are right when they are done, net by net and pin by pin
-- Still      a vertex without a critical net in common with the moved one has the gains that it had, so that all rows are right
pub mod Near
pub mod Still

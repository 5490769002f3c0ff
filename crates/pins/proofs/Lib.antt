-- Turns      a contraction and its undo in one net's list
-- Splitting  a contraction undone in one net
pub mod Turns
pub mod Splitting

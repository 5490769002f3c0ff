-- The tables of a running sale and what makes them sound for a state of the machine; what each operation promises. Assumes nothing.
-- Pairs    the contraction stack and the move journal as arrays
-- Tables   the tables as one record, and Sound, their invariant; Keeps, that what is not in use is untouched
-- Lent     the tables, where what a move only reads is one value
-- Total    the metric less a gain
-- Move     a vertex goes to another block
-- Join     a contraction and its undo
-- Keeping  what is not in use stays untouched by one operation after another
pub mod Pairs
pub mod Tables
pub mod Lent
pub mod Total
pub mod Move
pub mod Join
pub mod Keeping

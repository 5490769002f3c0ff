-- What a search does to the tables at each of its moves, beside the move. Assumes nothing.
-- Lent       the tables in the order in which the functions take them
-- Marks      the candidates as rows of bits, and what marking does to them
-- Tabled     what sound tables tell a search
-- Rows       nets as rows of vertex bits: marking by them, and rows made from the pins
-- Parted     these rows after a split
-- Falls      which gains a move can't raise
-- Peaks      peaks over the gains, kept by a move
-- Lifting    peaks raised after a move, net by net and pin by pin
pub mod Lent
pub mod Marks
pub mod Tabled
pub mod Rows
pub mod Parted
pub mod Falls
pub mod Peaks
pub mod Lifting

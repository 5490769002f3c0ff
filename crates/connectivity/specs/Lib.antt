-- The connectivity tables: pin counts, connectivity sets, gains.
-- Matrix  the incidence matrix, and what tables stand for it
-- Listed  membership in a stretch of pins
-- Share   what one net adds to the gain of a move
-- Raised  a row of the gain table raised
-- Row     laws of a matrix' row and its counts; the row that a pin list gives
-- Laid    each vertex' row raised by its share
-- Law     what one pin's change does to the tables
-- Set     the contract of set_pin and move_pin
-- Change  the rules of the critical counts
-- Touch   the rules at one vertex, and at all other pins
-- Moved   the row of a pin that moves
-- Steps   the steps of their proofs
-- Whole   all pins of a net that has none yet
-- Empty   tables of zeros stand for the matrix of no pins
pub mod Matrix
pub mod Listed
pub mod Share
pub mod Raised
pub mod Row
pub mod Laid
pub mod Law
pub mod Set
pub mod Change
pub mod Touch
pub mod Moved
pub mod Steps
pub mod Whole
pub mod Empty

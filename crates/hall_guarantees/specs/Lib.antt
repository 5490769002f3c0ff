-- The hall's own theorems (M-112).
-- Beside   a call line beside others keeps the sale valid, and within the cap and the hall's limit (settled-turn)
-- Limit    after every list of call lines no session is over the hall's limit (hall-fine)
-- Loading  a hall's file that is accepted leaves the hall so (hall-opens, hall-start)
-- Apart    a call line alters its own desk alone, and what it depends on (own-alone, only-through)
-- Half     demand 3's machine half for a hall (hall-half)
-- Stays    what every call line keeps holds of every desk after every list (each-after); a kept lot stays in its session of the draft (desks-kept)
-- Promises what the requests before promise of each catalogue and its tables (desk-holds)
-- Refused  a refused call line changes nothing (refused-turn, refused-led, refused-change-nothing)
-- Order    the order of moves in a hall (order-of-sets, order-in-halls, either-order)
-- HallThrough  a hall's file goes on from the lines of a catalogue (hall-through)
-- Fits     refusals of a file, and that the report fits into the lent output (hall-refused-in, hall-code-in, hall-engine-fits)
pub mod Beside
pub mod Limit
pub mod Loading
pub mod Apart
pub mod Half
pub mod Stays
pub mod Promises
pub mod Refused
pub mod Order
pub mod Fits
pub mod HallThrough

-- A call line of one catalogue beside the others of a hall, on the catalogue's own tables. Assumes nothing.
-- Desk     what a step needs and promises
-- Machine  a call of the machine as a step
-- Late     X and N as steps
pub mod Desk
pub mod Machine
pub mod Late

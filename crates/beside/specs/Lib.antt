-- One call of one catalogue of a hall.
-- Under   a call beside others is the call under both limits, but for 25: the machine's laws
-- Called  what its function needs and promises
pub mod Under
pub mod Called

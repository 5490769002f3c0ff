-- The bitset of incidence.
-- Word  64-bit words
-- On    what the bitset says, and what each function of the crate does to it
pub mod Word
pub mod On

-- A running sale made anew from the table of loaded pins, after a vertex was taken out or put in.
-- Reopening  what `reopen` needs and promises, and its proof
pub mod Reopening

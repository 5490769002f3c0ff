-- What the functions of this crate leave in a lent buffer, and what their answers say in document 01's terms. Assumes nothing.
-- Meaning  an answer of this crate as an answer of model
-- Place    the place of a join on the stack, which bounds the climb from its vertex
-- Closing  the tables that the closing report is read from, and the state of the machine that they show
pub mod Meaning
pub mod Place
pub mod Closing
pub mod Present

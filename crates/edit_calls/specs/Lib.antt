-- A running sale as the machine's state, and what a call makes of it. Assumes nothing.
-- Steps       the sale stands for the state; what it means that a call steps it
-- Start       as loading leaves the sale, it stands for a fresh machine
-- Refusal     the refusals of J, M and W, by the tables and by the machine
-- Called      what the calls' functions need and promise
-- Contracting J and S meet it
-- Moving      M and B meet it
-- Rows        J and S change the rows of two vertices
pub mod Steps
pub mod Start
pub mod Refusal
pub mod Called
pub mod Contracting
pub mod Moving
pub mod Rows

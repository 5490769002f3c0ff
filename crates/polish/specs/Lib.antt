-- P on the tables of a running sale, equal to model's. Assumes nothing.
-- Polishing  the candidates and the next move of P
-- Polished   P on its way and as a whole; its contracts
pub mod Polishing
pub mod Polished

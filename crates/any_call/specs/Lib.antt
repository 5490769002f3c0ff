-- One call of any kind as a step of the machine. Assumes nothing.
-- Kinds       the call that a letter and two numbers are
-- FixedStack  who is fixed with the contractions on the stack, and a call that goes by it
pub mod Kinds
pub mod FixedStack

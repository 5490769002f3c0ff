-- The running tables through moves, contractions and uncontractions.
-- World        the matrix of the pin lists and blocks, and the tables that stand for it
-- Running      the running tables, and the machine's state that they follow
-- Reading      their entries as document 01 defines them
-- Move         the loop of a move over the vertex's nets
-- ContractNet  a contraction in one net; Contract in all nets
-- SplitNet     its undo in one net; Uncontract in all nets
-- Operations   the contracts of the operations: the machine's steps
-- Halves       the halves of a gain over all nets
pub mod World
pub mod Running
pub mod Reading
pub mod Move
pub mod ContractNet
pub mod Contract
pub mod SplitNet
pub mod Uncontract
pub mod Operations
pub mod Halves

-- A hall's lots as records. Assumes nothing.
-- Placed    records written each at a place of its own
-- Lent      a hall's lent memory, with lots as tables or as records
-- Gathered  the records of a hall's columns with their places, and a list of records once these are written
-- Carried   the hall's promise on columns of its own, carried over to the records
-- Entry     what the hall's entry and the function inside it promise
pub mod Placed
pub mod Lent
pub mod Gathered
pub mod Carried
pub mod Entry

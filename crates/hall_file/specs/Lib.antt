-- A hall's file in memory that is long enough. Assumes nothing.
-- Views   a hall's lent tables as loading, opening and the calls name them
-- Calls   the table of led calls is the list that the calls are run from
-- Loaded  a hall as loading left it
-- Sold    its sets opened and its calls run
-- Worked  the file in model's terms
pub mod Views
pub mod Calls
pub mod Loaded
pub mod Sold
pub mod Worked

-- Lent memory and the machine: from the loader's tables to a running sale, along a list of calls, and to what document 01 says of every
-- entry at the end. Assumes nothing.
-- Open    what the loader promises is what opening needs
-- Prefix  a sale along a list of call lines: one more
-- Close   the closing report's needs at the end of a list, and that the output has space
-- Short   stack, record and free numbers are no longer than the list of calls
-- Mask    a connectivity set as a number
-- Taken   the marks that joins took out
-- Unused  the entries that are not in use, after loading and after each call
-- Held    the lent tables of a running sale, entry by entry
-- Unjoined  with no join standing the present marks are the loaded ones
pub mod Open
pub mod Prefix
pub mod Close
pub mod Short
pub mod Mask
pub mod Taken
pub mod Unused
pub mod Held
pub mod Unjoined

-- Theorems of buyers' sheets (M-113).
-- Rows   lists that a fold makes: what is in them, sums over them, their order, how many different numbers they have
-- Holds  what holds of every sheet of a valid sale (sheets-hold)
-- Fits   the sheets of every file fit into 122,880 bytes (sheets-fit, hall-sheets-fit); and hold after every accepted file (file-sheets, hall-file-sheets)
pub mod Rows
pub mod Holds
pub mod Fits

-- The calls X and N on the tables of a running sale.
-- Nets      the nets that the code leaves are those of the model; how many marks there are
-- Lot       the tables from which the sale is made anew, with the columns of one lot written
-- Stands    a sale and all its tables; what X and N need and promise
-- Spared    what an accepted X or N makes of the entries that are not in use
-- Turning   the calls, refused and accepted: X
-- Adding    N
-- Running   a call of the machine on the same tables
pub mod Nets
pub mod Lot
pub mod Stands
pub mod Spared
pub mod Turning
pub mod Adding
pub mod Running

-- What loading a hall's file leaves in four sets of lent tables.
-- Sets      the tables of all catalogues, each a slice of arrays, and the set of one
-- Books     the catalogues that the sets show, and what loading them one after another promises
-- Drafts    the drafts' bales together
-- HallFile  a hall's file
pub mod Sets
pub mod Books
pub mod Drafts
pub mod HallFile

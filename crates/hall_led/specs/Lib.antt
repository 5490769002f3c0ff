-- One led call line of a hall, on the sets of tables of its catalogues. Assumes nothing.
-- Others  what the other catalogues have of lots and marks
-- Desks   each desk stands in its own set; what the others leave to one of them
-- Own     one desk and the others
-- Led     what the function of a led call line needs and promises
pub mod Others
pub mod Desks
pub mod Own
pub mod Led

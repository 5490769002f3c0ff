-- Fields, lines and numbers as the functions of this crate answer them, each by a definition of model.
-- Field   the first separator, the number in a field, a line's form
-- Output  digits and signs written into a lent buffer
pub mod Field
pub mod Output

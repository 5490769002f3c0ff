-- What the passes over an hMETIS file answer, against its definition. Assumes nothing.
-- Rows   the rows of the file from a cursor on: passed over, one by one or many at once
-- Read   rows read into tables, checked, written
pub mod Rows
pub mod Read

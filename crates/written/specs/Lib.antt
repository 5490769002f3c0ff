-- A catalogue that is no estimate and has no lot kept, written as a sale file, loads again as it was: no code, nothing assumed.
-- The text: model's CatalogueText (catalogue_text). The theorem: LoadsAgain (loads-again; text-accepted, by which all of guarantees holds of it).
-- Beneath it: Rows (lines and fields), Numbers (digits), Marks (a buyer's), Lines (one line of each kind). Beside it: Example.
pub mod Rows
pub mod Numbers
pub mod Marks
pub mod Lines
pub mod LoadsAgain
pub mod Example

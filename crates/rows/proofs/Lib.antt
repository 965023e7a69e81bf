-- The laws of rows, for the proofs of this crate and of those above it, which reach them as Rattle.rows.proofs.NAME.
-- No contract cites them. Assumes nothing.
--
-- Bytes, Cells, Words, Tab and Below have the laws of what specs/ defines. The others have loops: a record that the
-- loop keeps, and the laws that answer where it begins, turns and ends. Passed: cells of a row. Tabbed: elements of an array.
-- Tiles: those of a tile a turn. Made: an array that a closure made, number by number.
--
-- A law's name is what is read, what was done, and the case, joined by _ or -:
--   none, more, all       with none of n done, with one more done, with all done
--   from, inside, to      the same of a part: where it begins, a turn in it, where it ends
--   same, other           at the place that was written, or where nothing changes; at another place
--   before, past          at a place before, and at one past or not reached
--   first, second         of the first of several, and of the second
--   rest                  places that are left as they are need no turn
--   after                 one pass after another
--   at, ext               each from all, all from each
--   cong                  of equal parts
--   fails, full           where one fails, where none does
--   bound                 at most
pub mod Below
pub mod Bytes
pub mod Cells
pub mod Made
pub mod Passed
pub mod Tab
pub mod Tabbed
pub mod Tiles
pub mod Words

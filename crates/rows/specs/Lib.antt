-- What rows, lists given by their elements, and tests and sums of columns are. Assumes nothing.
pub mod Bytes
pub mod Cells
pub mod Words
pub mod Tab
pub mod Below
pub mod Answer

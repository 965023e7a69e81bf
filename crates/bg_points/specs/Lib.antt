-- Which point of a background a column shows. Assumes nothing.
pub mod References
pub mod Point
pub mod Code

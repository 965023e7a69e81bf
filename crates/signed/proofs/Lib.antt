-- The laws of signed numbers. Assumes nothing.
pub mod Difference
pub mod Order
pub mod Remainder
pub mod Range
pub mod Words
pub mod Bias
pub mod Point

-- Why a column has its colour. Assumes nothing.
pub mod Reason
pub mod Explain
pub mod Code
